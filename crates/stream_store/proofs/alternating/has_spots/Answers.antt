use Rattle.std.proofs.Common.{arith}
use Rattle.stream_store.proofs.Spots.{none_left, spots_all, spots_more, spots_none}
use Rattle.stream_store.proofs.alternating.has_spots.Goals as goal

pub loop-message-init : goal.loop-message-init
loop-message-init c = spots_none c.args.table.now.placed c.args.messages.now

pub loop-message-preserved : goal.loop-message-preserved
loop-message-preserved c =
    let told = c.in-Some.ensures.value in
    spots_more c.args.table.now.placed c.args.messages.now c.loop-message.message-index c.loop-message.from c.in-Some.next c.message-item.result c.requires.rising (omega arith) c.message-item.is c.loop-message.invariant told.1 told.0

pub returns : goal.returns
returns c = record {
  value = λ none.
      spots_all c.args.table.now.placed c.args.messages.now c.loop-message.message-index c.loop-message.from (omega arith) c.loop-message.invariant (none_left c.at_or_after.result _ c.is_none.result c.is_none.ensures c.at_or_after.ensures none);
}
