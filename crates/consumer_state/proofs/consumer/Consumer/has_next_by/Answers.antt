use Rattle.std.proofs.Common.{refl, true, false}
use Rattle.consumer_state.proofs.Currents.{next_read}
use Rattle.consumer_state.proofs.consumer.Consumer.has_next_by.Goals as goal

pub returns-then-has_stored_pick : goal.returns-then-has_stored_pick
returns-then-has_stored_pick g c = record { value = next_read (g.W.View.stream c.args.stream.now) c.args.self.now true _ _ c.if-has_stored_pick.ensures.value refl c.if-has_stored_pick.true }

pub returns-else-has_stored_pick : goal.returns-else-has_stored_pick
returns-else-has_stored_pick g c = record { value = next_read (g.W.View.stream c.args.stream.now) c.args.self.now false c.has_taken.result _ c.if-has_stored_pick.ensures.value c.has_taken.ensures.value refl }
