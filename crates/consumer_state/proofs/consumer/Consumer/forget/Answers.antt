use Rattle.std.proofs.Common.{ap, not}
use Rattle.std.specs.Prelude.{◌==◌}
use Rattle.consumer_state.proofs.Keeping.{kept_less}
use Rattle.consumer_state.proofs.consumer.Consumer.forget.Goals as goal

pub invariant_of-self : goal.invariant_of-self
invariant_of-self c = kept_less c.self.inside.name c.self.inside.made c.self.inside.config c.self.inside.progress c.self.inside.pulls c.self.inside.mark c.self.invariant (λ p. not (p.seq == c.args.seq)) c.forget.new.self c.self.inside.mark (ap (λ p. p.pending) c.forget.ensures.value) (ap (λ p. p.dseq) c.forget.ensures.value)
