use Rattle.std.proofs.Common.{Some, refl, sym, ◌∙◌, arith}
use Rattle.std.specs.Prelude.{find}
use Rattle.std.proofs.lemmas.List.{length-map}
use Rattle.js_model.specs.declared.consumer.Pending.{Pending}
use Rattle.consumer_progress.specs.GivingUp.{is_spent}
use Rattle.consumer_progress.proofs.GivenUp.{fewer_passed, moved_progress, none_left, nothing_spent, same_given_up}
use Rattle.consumer_progress.proofs.progress.ConsumerProgress.give_one_up.Goals as goal

pub move_spent-requires-clause-room : goal.move_spent-requires-clause-room
move_spent-requires-clause-room c = omega (arith, length-map c.self.inside.given_up (λ (p : Pending). p.seq), c.self.invariant.few_delivered)

pub invariant_of-self : goal.invariant_of-self
invariant_of-self c =
    let i = c.self.inside in
    let t = is_spent c.args.now (Some c.args.most) in
    rw (c.move_spent.ensures.left, c.move_spent.ensures.moved) (moved_progress t _ c.self.invariant i.given_up refl (find t i.pending) refl)

pub returns-clause-same : goal.returns-clause-same
returns-clause-same c = rw (c.move_spent.ensures.left, c.move_spent.ensures.moved, ← c.self.view_is) (same_given_up c.args.now (Some c.args.most) _ c.self.invariant c.self.inside.given_up refl)

pub returns-clause-fewer : goal.returns-clause-fewer
returns-clause-fewer c = rw (c.move_spent.ensures.left, ← c.self.view_is) (λ e. fewer_passed (is_spent c.args.now (Some c.args.most)) c.self.inside.pending (sym c.move_spent.ensures.is ∙ e))

pub returns-clause-none : goal.returns-clause-none
returns-clause-none c = rw (c.move_spent.ensures.left, c.move_spent.ensures.moved) (λ e. nothing_spent c.args.now (Some c.args.most) _ (none_left c.args.now (Some c.args.most) c.self.inside.pending (sym c.move_spent.ensures.is ∙ e)))
