use Rattle.std.proofs.Common.{◌||◌, ◌∙◌, not, ap, sym, refl}
use Rattle.std.specs.List.{list_any}
use Rattle.consumer_need.specs.Needs.{takes_subject}
use Rattle.retention.proofs.Asking.{by_interest, in_queue}
use Rattle.retention.proofs.needing.is_kept.Goals as goal

pub returns-in-Interest : goal.returns-in-Interest
returns-in-Interest g c = record {
  value = λ m s n. by_interest g.N.Need.consumer c.args.consumers.now c.args.subject.now c.args.seq m s n c.args.policy c.needed.result c.in-Interest.is c.needed.ensures.value;
}

pub returns-then-needed : goal.returns-then-needed
returns-then-needed g c = record {
  value = λ m s n. (let own = in_queue g.N.Need.consumer c.args.consumers.now c.args.subject.now c.args.seq m s n c.args.policy c.needed-in-WorkQueue.result (list_any (λ x. takes_subject (g.N.Need.consumer x) c.args.subject.now) c.args.consumers.now) c.in-WorkQueue.is c.needed-in-WorkQueue.ensures.value refl in
      c.if-needed.true ∙ ap (λ b. b || not (list_any (λ x. takes_subject (g.N.Need.consumer x) c.args.subject.now) c.args.consumers.now)) (sym c.if-needed.true) ∙ own);
}

pub returns-else-needed : goal.returns-else-needed
returns-else-needed g c = record {
  value = λ m s n. ap (λ b. b || not c.is_taken.result) (sym c.if-needed.false)
      ∙ in_queue g.N.Need.consumer c.args.consumers.now c.args.subject.now c.args.seq m s n c.args.policy c.needed-in-WorkQueue.result c.is_taken.result c.in-WorkQueue.is c.needed-in-WorkQueue.ensures.value c.is_taken.ensures.value;
}
