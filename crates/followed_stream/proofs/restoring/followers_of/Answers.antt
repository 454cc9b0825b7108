use Rattle.std.proofs.Common.{arith, ◌∙◌}
use Rattle.std.proofs.lemmas.List.Elements.{All-push}
use Rattle.followed_stream.specs.Followers.{IsCounted}
use Rattle.followed_stream.proofs.Restored.{one_more}
use Rattle.followed_stream.proofs.restoring.followers_of.Goals as goal

pub loop-consumer-preserved : goal.loop-consumer-preserved
loop-consumer-preserved c =
    let fs = c.loop-consumer.followers.items in
    rw c.in_ok-push.ensures.items (
      one_more c.args.kept.now fs c.loop-consumer.consumer-index c.consumer-item.result c.of.result (omega arith) c.consumer-item.is c.loop-consumer.invariant.0 (c.of.ensures.value ∙ c.in_ok-consumer.ensures.value),
      All-push (IsCounted c.args.stored.now.messages) fs c.of.result c.loop-consumer.invariant.1 c.of.ensures.counted,
    )
