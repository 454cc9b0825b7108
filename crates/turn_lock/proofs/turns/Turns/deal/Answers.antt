use Rattle.std.proofs.Common.{rules, ◌≡◌, ◌∷◌, [], suc, List, refl, sym, ap, ◌∙◌, subst}
use Rattle.histories.specs.Entries.{Entry}
use Rattle.turn_lock.specs.Views.{View, dealt, first_of}
use Rattle.turn_lock.proofs.Lists.{one_numbered}
use Rattle.turn_lock.proofs.Seats.{idle_of}
use Rattle.turn_lock.proofs.Keeps.{deals}
use Rattle.turn_lock.proofs.turns.Turns.deal.Goals as goal

pub split_seat-seat-requires : goal.split_seat-seat-requires
split_seat-seat-requires g c = let is = c.requires.left.1 in
    (search rules, search rules, deals _ _ _ _ (g.met.P.Standing.all_lawful _) _ _ (suc c.requires.left.0) (ap (λ m. m.0.stage) is) (ap (λ m. m.0.numbers) is))

pub invariant_of-result : goal.invariant_of-result
invariant_of-result g c = let v : View = c.args.first.now.me.0 in let empty : v.front ≡ [] = ap (λ m. m.0.front) c.requires.left.1 in
    idle_of _ _ (dealt v) (c.into_badge.ensures.2 ∙ ap (λ m. m.0 ∷ []) c.split_seat-seat.ensures.4) refl (one_numbered (first_of v.numbers)) (subst (λ (l : List Entry). g.P.Lawful.lawful v.opening l) (sym empty) c.requires.lawful)
