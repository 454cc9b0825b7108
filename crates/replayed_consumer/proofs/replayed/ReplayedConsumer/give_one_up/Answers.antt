use Rattle.std.proofs.Common.{Some, sym, ◌∙◌}
use Rattle.std.proofs.lemmas.List.{length-map}
use Rattle.std.proofs.Common.{arith}
use Rattle.js_model.specs.declared.consumer.Pending.{Pending}
use Rattle.consumer_progress.specs.GivingUp.{is_spent}
use Rattle.consumer_progress.proofs.GivenUp.{fewer_passed, none_left}
use Rattle.replayed_consumer.proofs.GivingUp.{moved_replayable, moved_same, none_spent}
use Rattle.replayed_consumer.proofs.replayed.ReplayedConsumer.give_one_up.Goals as goal

pub move_spent-requires-clause-room : goal.move_spent-requires-clause-room
move_spent-requires-clause-room c = omega (arith, length-map c.self.inside.given_up (λ (p : Pending). p.seq), c.self.invariant.few)

pub invariant_of-self : goal.invariant_of-self
invariant_of-self c =
    let i = c.self.inside in
    rw (c.move_spent.ensures.left, c.move_spent.ensures.moved) (moved_replayable i.name i.made i.config i.cursor i.dseq i.picks i.pending i.given_up c.self.invariant (is_spent c.args.moment (Some c.args.most)))

pub returns-clause-same : goal.returns-clause-same
returns-clause-same c =
    let i = c.self.inside in
    rw (c.move_spent.ensures.left, c.move_spent.ensures.moved, ← c.self.view_is) (moved_same i.name i.made i.config i.cursor i.dseq i.picks i.pending i.given_up c.self.invariant c.args.moment (Some c.args.most))

pub returns-clause-fewer : goal.returns-clause-fewer
returns-clause-fewer c = rw (c.move_spent.ensures.left, ← c.self.view_is) (λ e. fewer_passed (is_spent c.args.moment (Some c.args.most)) c.self.inside.pending (sym c.move_spent.ensures.is ∙ e))

pub returns-clause-none : goal.returns-clause-none
returns-clause-none c = rw (c.move_spent.ensures.left, c.move_spent.ensures.moved) (λ e. none_spent c.args.moment (Some c.args.most) _ (none_left c.args.moment (Some c.args.most) c.self.inside.pending (sym c.move_spent.ensures.is ∙ e)))
