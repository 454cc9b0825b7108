use Rattle.std.proofs.Common.{ℕ, ◌≤◌, ◌^◌, Option, sym, subst}
use Rattle.desk_hold.specs.declared.delivering.Ending.{Ending}
use Rattle.desk_hold.specs.Deliveries.{GoesOn}
use Rattle.desk_hold.proofs.Next.{next}
use Rattle.desk_hold.proofs.delivering.deliver_next.Goals as goal

pub returns-clause-goes_on : goal.returns-clause-goes_on
returns-clause-goes_on g c =
    let P = g.P.Place in let kept = c.law_kept.ensures.kept in let keeps = c.law_kept-2.ensures.kept in
    let old = P.seen c.args.place.now in let new = P.seen c.deliver_one-told.new.self in
    subst (λ (ending : Option Ending). GoesOn P.holds c.args.now c.args.listening.now ending old new c.args.outs.now c.deliver_one-told.new.outs) (sym c.ending_after.ensures.value)
    (next P.holds c.args.now c.args.listening.now old new c.law_moment.ensures.bound kept keeps (subst (λ (n : ℕ). n ≤ 2 ^ 62) c.incarnation.ensures.value c.incarnation.ensures.bound) c.requires.going _ _ c.requires.room _ c.deliver_one-told.ensures.delivers)
