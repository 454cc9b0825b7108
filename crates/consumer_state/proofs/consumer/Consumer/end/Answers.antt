use Rattle.std.proofs.Common.{ap, not, sym, ◌∙◌}
use Rattle.std.specs.Prelude.{◌==◌}
use Rattle.consumer_state.proofs.Keeping.{kept_less}
use Rattle.consumer_state.proofs.Steps.{none_ends, one_ends}
use Rattle.consumer_state.specs.Keeping.{kept_of}
use Rattle.consumer_state.proofs.consumer.Consumer.end.Goals as goal

pub invariant_of-self : goal.invariant_of-self
invariant_of-self c = kept_less c.self.inside.name c.self.inside.made c.self.inside.config c.self.inside.progress c.self.inside.pulls c.self.inside.mark c.self.invariant (λ p. not (p.seq == c.args.seq)) c.end.new.self c.self.inside.mark (ap (λ p. p.pending) c.end.ensures.value) (ap (λ p. p.dseq) c.end.ensures.value)

pub returns-then-not-end : goal.returns-then-not-end
returns-then-not-end c = record { value = none_ends (kept_of c.self.inside.name c.self.inside.made c.self.inside.config c.self.inside.progress c.self.inside.pulls c.self.inside.mark) c.args.self.now c.self.view_is c.args.seq c.end.new.self (sym c.end.ensures.was ∙ c.if-not-end.true) c.end.ensures.value }

pub returns : goal.returns
returns c = record { value = one_ends (kept_of c.self.inside.name c.self.inside.made c.self.inside.config c.self.inside.progress c.self.inside.pulls c.self.inside.mark) c.args.self.now c.self.view_is c.args.seq c.end.new.self (sym c.end.ensures.was ∙ c.if-not-end.false) c.end.ensures.value }

pub invariant_of-self-2 : goal.invariant_of-self-2
invariant_of-self-2 c = kept_less c.self.inside.name c.self.inside.made c.self.inside.config c.self.inside.progress c.self.inside.pulls c.self.inside.mark c.self.invariant (λ p. not (p.seq == c.args.seq)) c.end.new.self c.self.inside.mark (ap (λ p. p.pending) c.end.ensures.value) (ap (λ p. p.dseq) c.end.ensures.value)
