use Rattle.std.proofs.Common.{rules, ◌∷◌, ◌++◌, [], List, None, refl, sym, ap, ◌∙◌, subst}
use Rattle.atomic_table.specs.Table.{rest}
use Rattle.histories.specs.Entries.{AreBy}
use Rattle.turn_lock.specs.declared.kept.Kept.{Kept}
use Rattle.turn_lock.specs.Views.{View, left_with, first_of}
use Rattle.turn_lock.specs.Seats.{SeatView, shown, view_of}
use Rattle.turn_lock.specs.Calls.{added}
use Rattle.histories.specs.Fronts.{own}
use Rattle.turn_lock.proofs.Seats.{puts, idle_of}
use Rattle.histories.proofs.Own.{own-left}
use Rattle.turn_lock.proofs.Keeps.{leaves}
use Rattle.turn_lock.proofs.turns.Turns.leave.Goals as goal

pub exchange-found-requires : goal.exchange-found-requires
exchange-found-requires g c = let empty = c.seat.invariant.empty in
    (ap (λ z. z.lock) c.seat.view_is ∙ (c.requires.own ∙ ap (λ z. z.lock) (sym c.self.view_is)), (None, empty ∙ ap (λ l. (0, None) ∷ rest l) (sym empty)))

pub fetch_add-requires : goal.fetch_add-requires
fetch_add-requires g c =
    let s = c.seat.inside.seat in let e = c.exchange-found.ensures in
    let k : Kept g.row.S.Denot = record { value = c.args.held.value; entries = c.args.entries } in
    let p = puts _ s.me.0 s.me.1 k c.exchange-found.new.seat.me c.seat.invariant e.3 in
    let fits = subst (λ (z : SeatView). g.P.Standing.stands z.opening (z.front ++ c.args.entries.value) c.args.held.value) (sym c.seat.view_is) c.requires.stands in
    let by = subst (λ (z : SeatView). AreBy (first_of z.numbers) c.args.entries.value) (sym c.seat.view_is) c.requires.by in (
      e.0 ∙ (ap (λ z. z.lock) c.seat.view_is ∙ (c.requires.own ∙ ap (λ z. z.lock) (sym c.self.view_is))),
      search rules,
      leaves _ _ _ _ (g.met.P.Standing.all_lawful _) _ c.self.invariant.slots _ _ p.ticket k p.inside p.carried
          (subst (λ (v : View). g.P.Standing.stands v.opening (v.front ++ c.args.entries.value) c.args.held.value) (sym p.same) fits)
          (subst (λ (v : View). AreBy (first_of v.numbers) c.args.entries.value) (sym p.same) by),
    )

pub into_badge-requires : goal.into_badge-requires
into_badge-requires g c =
    let s = c.seat.inside.seat in let e = c.exchange-found.ensures in
    let k : Kept g.row.S.Denot = record { value = c.args.held.value; entries = c.args.entries } in
    let p = puts _ s.me.0 s.me.1 k c.exchange-found.new.seat.me c.seat.invariant e.3 in let l = c.fetch_add.ensures.2 k p.carried in
    ap (λ m. m.1) l.0

pub invariant_of-result : goal.invariant_of-result
invariant_of-result g c =
    let s = c.seat.inside.seat in let e = c.exchange-found.ensures in
    let k : Kept g.row.S.Denot = record { value = c.args.held.value; entries = c.args.entries } in
    let p = puts _ s.me.0 s.me.1 k c.exchange-found.new.seat.me c.seat.invariant e.3 in let l = c.fetch_add.ensures.2 k p.carried in
    let is = ap (λ m. m.0) l.0 ∙ ap (λ (v : View). left_with v c.args.entries.value) p.same in
    idle_of _ _ (left_with s.me.0 c.args.entries.value) (c.into_badge.ensures.2 ∙ ap (λ (v : View). v ∷ []) is) refl c.seat.invariant.numbered
    (subst (λ (v : View). g.P.Lawful.lawful v.opening (v.front ++ c.args.entries.value)) p.same l.1)

pub returns-clause-added : goal.returns-clause-added
returns-clause-added g c =
    let s = c.seat.inside.seat in let e = c.exchange-found.ensures in
    let k : Kept g.row.S.Denot = record { value = c.args.held.value; entries = c.args.entries } in
    let p = puts _ s.me.0 s.me.1 k c.exchange-found.new.seat.me c.seat.invariant e.3 in let l = c.fetch_add.ensures.2 k p.carried in
    let is = ap (λ m. m.0) l.0 ∙ ap (λ (v : View). left_with v c.args.entries.value) p.same in
    let views = c.into_badge.ensures.2 ∙ ap (λ (v : View). v ∷ []) is in
    let table = c.into_badge.ensures.0 ∙ (c.fetch_add.ensures.0 ∙ e.0) in
    (λ i. shown (table i) (view_of (views i))) ∙ ap (λ (z : SeatView). added z c.args.entries.value) c.seat.view_is

pub returns-clause-own : goal.returns-clause-own
returns-clause-own g c =
    let s = c.seat.inside.seat in let e = c.exchange-found.ensures in
    let k : Kept g.row.S.Denot = record { value = c.args.held.value; entries = c.args.entries } in
    let p = puts _ s.me.0 s.me.1 k c.exchange-found.new.seat.me c.seat.invariant e.3 in let l = c.fetch_add.ensures.2 k p.carried in
    let is = ap (λ m. m.0) l.0 ∙ ap (λ (v : View). left_with v c.args.entries.value) p.same in
    let views = c.into_badge.ensures.2 ∙ ap (λ (v : View). v ∷ []) is in
    let by = subst (λ (z : SeatView). AreBy (first_of z.numbers) c.args.entries.value) (sym c.seat.view_is) c.requires.by in
    ap (λ (vs : List View). own (view_of vs).numbers (view_of vs).front) views
    ∙ (own-left s.me.0.numbers (first_of s.me.0.numbers) s.me.0.front c.args.entries.value by c.seat.invariant.numbered ∙ ap (λ (z : SeatView). own z.numbers z.front ++ c.args.entries.value) c.seat.view_is)
