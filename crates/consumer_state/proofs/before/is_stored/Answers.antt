use Rattle.std.proofs.Common.{Some, ap, sym, ◌∙◌}
use Rattle.consumer_state.proofs.Currents.{stored_none, stored_some}
use Rattle.consumer_state.proofs.before.is_stored.Goals as goal

pub returns-in-Some : goal.returns-in-Some
returns-in-Some g c = record {
  value =
      stored_some (g.W.View.stream c.args.stream.now) c.args.seq c.last-last.ensures.order (record { seq = c.head.inside.seq; at = c.head.inside.at; subject = c.head.inside.subject.now; size = c.head.inside.size })
      (ap Some c.head.view_is ∙ sym c.in-Some.is ∙ c.at_or_after.ensures.value);
}

pub returns-in-None : goal.returns-in-None
returns-in-None g c = record { value = stored_none (g.W.View.stream c.args.stream.now) c.args.seq c.last-last.ensures.order (sym c.in-None.is ∙ c.at_or_after.ensures.value) }
