use Rattle.std.proofs.Common.{[], ◌∷◌, ◌++◌, map, ap, ◌∙◌}
use Rattle.std.proofs.lemmas.List.{take_all}
use Rattle.js_model.specs.declared.stream.Message.{Message}
use Rattle.log_records.specs.Beginnings.{message_told}
use Rattle.log_records.proofs.Begun.{mapped_more}
use Rattle.log_records.proofs.beginning.messages_of.Goals as goal

pub loop-one-preserved : goal.loop-one-preserved
loop-one-preserved c =
    c.in_ok-push.ensures.ok ∙ ap (λ (m : Message). c.loop-one.messages ++ m ∷ []) c.in_ok-message_of.ensures.value
    ∙ mapped_more message_told c.args.stored.now c.loop-one.one-index c.one-item.result c.loop-one.messages c.loop-one-test.true c.one-item.is c.loop-one.invariant

pub returns : goal.returns
returns c = record { value = c.loop-one.invariant ∙ ap (map message_told) (take_all c.loop-one.one-index c.args.stored.now c.loop-one-test.false) }
