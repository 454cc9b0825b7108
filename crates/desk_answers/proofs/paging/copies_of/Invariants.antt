use Rattle.std.proofs.Common.{◌≡◌, take}
use Rattle.desk_answers.proofs.paging.copies_of.Given as goal

abbrev pub invariant-loop-info : goal.invariant-loop-info
invariant-loop-info l = l.copies ≡ take l.info-index l.infos
