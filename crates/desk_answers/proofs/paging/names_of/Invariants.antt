use Rattle.std.proofs.Common.{◌≡◌, map, take}
use Rattle.js_model.specs.declared.reply.StreamInfo.{StreamInfo}
use Rattle.desk_answers.proofs.paging.names_of.Given as goal

abbrev pub invariant-loop-info : goal.invariant-loop-info
invariant-loop-info l = l.names ≡ map (λ (i : StreamInfo). i.config.name) (take l.info-index l.infos)
