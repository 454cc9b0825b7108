use Rattle.std.proofs.Common.{rules, ◌≡◌, List, sym, ap, ◌∙◌, subst}
use Rattle.turn_lock.specs.Views.{View}
use Rattle.turn_lock.specs.Calls.{HasMet}
use Rattle.turn_lock.specs.Seats.{SeatView, shown, view_of}
use Rattle.turn_lock.proofs.Seats.{idle_at, idle_met, met_of}
use Rattle.turn_lock.proofs.Keeps.{joins, compares, notes}
use Rattle.turn_lock.proofs.turns.Turns.meet.Goals as goal

pub split_seat-copied-requires : goal.split_seat-copied-requires
split_seat-copied-requires g c = let b = c.into_seat-theirs.ensures in let lent = c.replace-lent.ensures.value in
    let w = idle_at _ _ c.into_seat-theirs.result.me.0 (ap (λ x. x.views) (sym lent) ∙ b.2) c.other.invariant in
    (b.0 ∙ (ap (λ x. x.table_id) lent ∙ (ap (λ z. z.lock) c.other.view_is ∙ (c.requires.own.1 ∙ ap (λ z. z.lock) (sym c.self.view_is)))), search rules, notes _ _ _ _ (g.met.P.Standing.all_lawful _) _ _ w.idle)

pub join_seat-requires : goal.join_seat-requires
join_seat-requires g c =
    let a = c.into_seat-one.ensures in let b = c.into_seat-theirs.ensures in let lent = c.replace-lent.ensures.value in let k = c.split_seat-copied.ensures in
    let v = idle_at _ _ c.into_seat-one.result.me.0 a.2 c.seat.invariant in (
      a.0 ∙ (ap (λ z. z.lock) c.seat.view_is ∙ (c.requires.own.0 ∙ ap (λ z. z.lock) (sym c.self.view_is))),
      k.3 ∙ (b.0 ∙ (ap (λ x. x.table_id) lent ∙ (ap (λ z. z.lock) c.other.view_is ∙ (c.requires.own.1 ∙ ap (λ z. z.lock) (sym c.self.view_is))))),
      ap (λ m. m.1) k.4,
      search rules,
      joins _ _ _ _ (g.met.P.Standing.all_lawful _) _ _ _ _ v.idle (ap (λ m. m.0.stage) k.4),
    )

pub load-requires : goal.load-requires
load-requires g c = let e = c.join_seat.ensures in let a = c.into_seat-one.ensures in
    (e.0 ∙ (a.0 ∙ (ap (λ z. z.lock) c.seat.view_is ∙ (c.requires.own.0 ∙ ap (λ z. z.lock) (sym c.self.view_is)))), search rules, compares _ _ _ _ (g.met.P.Standing.all_lawful _) _ _ _ _ _ _ _ (ap (λ m. m.0.stage) e.2))

pub into_badge-requires-2 : goal.into_badge-requires-2
into_badge-requires-2 g c = let e = c.join_seat.ensures in let l = c.load.ensures.2 _ _ _ _ (ap (λ m. m.0.stage) e.2) in
    ap (λ m. m.1) l.0 ∙ (ap (λ m. m.1) e.2 ∙ c.into_seat-one.ensures.3)

pub invariant_of-result : goal.invariant_of-result
invariant_of-result g c = let e = c.join_seat.ensures in let l = c.load.ensures.2 _ _ _ _ (ap (λ m. m.0.stage) e.2) in
    let v = c.into_seat-one.result.me.0 in let w = c.split_seat-copied.result.me.0 in let h = idle_at _ _ v c.into_seat-one.ensures.2 c.seat.invariant in
    idle_met _ _ c.load.new.seat.me.0 c.join_seat.new.seat.me.0 v w c.into_badge-2.ensures.2 (ap (λ m. m.0) l.0) (ap (λ m. m.0) e.2) h.numbered l.2

pub returns-clause-met : goal.returns-clause-met
returns-clause-met g c = let e = c.join_seat.ensures in let l = c.load.ensures.2 _ _ _ _ (ap (λ m. m.0.stage) e.2) in
    let a = c.into_seat-one.ensures in let b = c.into_seat-theirs.ensures in let r = c.into_badge-2.ensures in let lent = c.replace-lent.ensures.value in
    let v = c.into_seat-one.result.me.0 in let w = c.split_seat-copied.result.me.0 in let u = c.into_seat-theirs.result.me.0 in
    let t = c.seat.inside.badge.table_id in let o = c.other.inside.badge.table_id in let n = c.into_badge-2.result.table_id in
    let mine : shown t v ≡ c.args.seat = ap (λ (vs : List View). shown t (view_of vs)) (sym a.2) ∙ c.seat.view_is in
    let theirs : shown o u ≡ c.args.other.now = ap (λ (vs : List View). shown o (view_of vs)) (sym (ap (λ x. x.views) (sym lent) ∙ b.2)) ∙ c.other.view_is in
    let new : shown n c.load.new.seat.me.0 ≡ shown n (view_of c.into_badge-2.result.views) = ap (λ (vs : List View). shown n (view_of vs)) (sym r.2) in
    subst (λ (z : SeatView × SeatView × SeatView). HasMet z.0 z.1 z.2) (λ i. (mine i, theirs i, new i))
    (met_of t n c.load.new.seat.me.0 c.join_seat.new.seat.me.0 v w u o (r.0 ∙ (c.load.ensures.0 ∙ (e.0 ∙ a.0))) (ap (λ m. m.0) l.0) (ap (λ m. m.0) e.2) (ap (λ m. m.0) c.split_seat-copied.ensures.4) l.1)
