use Rattle.std.proofs.Common.{get_or, not, arith}
use Rattle.std.proofs.lemmas.List.{get_or_default}
use Rattle.std.proofs.lemmas.List.Edits.{map_over_more}
use Rattle.js_model.specs.declared.consumer.Consumer.{Consumer}
use Rattle.effects.specs.Folding.{holding}
use Rattle.effects.specs.Ranges.{is_within}
use Rattle.log_replay.proofs.consumers.forget_all.Goals as goal

pub loop-consumer-preserved : goal.loop-consumer-preserved
loop-consumer-preserved c =
    let i = c.loop-consumer.consumer-index in
    let here : Consumer = get_or c.loop-consumer.consumers i c.consumer-item.result in
    rw c.forget.ensures.value (map_over_more (holding (λ n. not (is_within c.args.low c.args.high n))) c.args.consumers.now c.loop-consumer.consumers i here (omega arith) c.loop-consumer.invariant (get_or_default c.loop-consumer.consumers i c.consumer-item.result here (omega arith)))
