use Rattle.std.proofs.Common.{◌≡◌, take}
use Rattle.desk_answers.proofs.copying.copy_consumer_infos.Given as goal

abbrev pub invariant-loop-info : goal.invariant-loop-info
invariant-loop-info l = l.copies ≡ take l.info-index l.infos
