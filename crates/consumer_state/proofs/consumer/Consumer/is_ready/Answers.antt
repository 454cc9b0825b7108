use Rattle.std.proofs.Common.{sym, ◌∙◌}
use Rattle.consumer_state.proofs.Offers.{any_no_wait, ready_no_wait, ready_offered}
use Rattle.consumer_state.proofs.consumer.Consumer.is_ready.Goals as goal

pub returns-then-has_no_wait : goal.returns-then-has_no_wait
returns-then-has_no_wait g c = record { value = λ listening heard. c.if-has_no_wait.true ∙ ready_no_wait (g.W.View.stream c.args.stream.now) c.args.self.now c.args.listened c.if-is_asked.ensures.value (c.if-has_no_wait.ensures.value ∙ sym (any_no_wait c.args.self.now.waiting)) c.holds.ensures.consumer.no_pulls listening heard }

pub returns-else-has_no_wait : goal.returns-else-has_no_wait
returns-else-has_no_wait g c = record {
  value = λ listening heard. c.is_some.ensures ∙ ready_offered (g.W.View.stream c.args.stream.now) c.args.self.now c.args.listened c.candidate.result c.candidate.ensures.offer c.if-is_asked.ensures.value (c.if-has_no_wait.ensures.value ∙ sym (any_no_wait c.args.self.now.waiting)) c.holds.ensures.consumer.no_pulls listening heard;
}
