use Rattle.std.proofs.Common.{ap}
use Rattle.consumer_state.proofs.Keeping.{kept_moved}
use Rattle.consumer_state.proofs.consumer.Consumer.set_due.Goals as goal

pub invariant_of-self : goal.invariant_of-self
invariant_of-self c = kept_moved c.self.inside.name c.self.inside.made c.self.inside.config c.self.inside.progress c.self.inside.pulls c.self.inside.mark c.self.invariant c.args.seq c.args.due c.set_due.new.self (ap (λ p. p.pending) c.set_due.ensures.value) (ap (λ p. p.dseq) c.set_due.ensures.value)
