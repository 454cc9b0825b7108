-- Seats whose fronts grow by turns of their own and of others.
use Rattle.std.proofs.Common.{◌≡◌, ℕ, List, [], ◌++◌, append_assoc, append-nil, refl, sym, ap, subst, ◌∙◌}
use Rattle.histories.specs.Entries.{Entry, Opening}
use Rattle.histories.specs.Fronts.{Begins, own}
use Rattle.histories.proofs.Own.{own-grows, own-left}
use Rattle.turn_lock.specs.Calls.{number_of, worn}
use Rattle.turn_lock.specs.Seats.{SeatView}
use Rattle.hub_fronts.specs.Turns.{HasSeen, Leaves, TakesTurn, HasGrown}

pub grown_nothing : (s : SeatView) → HasGrown [] s s
grown_nothing s = record {
  lock = refl;
  opening = refl;
  numbers = refl;
  begins = record { later = []; behind = sym (append-nil s.front) };
  mine = sym (append-nil (own s.numbers s.front));
}

begins_more : (a b c : List Entry) → Begins b a → Begins c b → Begins c a
begins_more a b c f g = record { later = f.later ++ g.later; behind = g.behind ∙ (ap (λ (l : List Entry). l ++ g.later) f.behind ∙ append_assoc a f.later g.later) }

pub grown_more : (first more : List Entry) (a b c : SeatView) → HasGrown first a b → HasGrown more b c → HasGrown (first ++ more) a c
grown_more first more a b c f g = record {
  lock = g.lock ∙ f.lock;
  opening = g.opening ∙ f.opening;
  numbers = g.numbers ∙ f.numbers;
  begins = begins_more a.front b.front c.front f.begins g.begins;
  mine =
      subst (λ (ns : List ℕ). own ns c.front ≡ own ns b.front ++ more) f.numbers g.mine
      ∙ (ap (λ (l : List Entry). l ++ more) f.mine ∙ append_assoc (own a.numbers a.front) first more);
}

pub grown_seen : (a b : SeatView) → HasSeen a b → HasGrown [] a b
grown_seen a b seen = record {
  lock = seen.lock;
  opening = seen.opening;
  numbers = seen.numbers;
  begins = record { later = seen.grows.later; behind = seen.grows.behind };
  mine = own-grows a.numbers a.front b.front seen.grows ∙ sym (append-nil (own a.numbers a.front));
}

pub grown_left : (lawful : Opening → List Entry → Type 0) (entries : List Entry) (a b : SeatView) → Leaves lawful entries a b → HasGrown entries a b
grown_left lawful entries a b left =
    subst (λ (s : SeatView). HasGrown entries a s) (sym left.behind)
    (record { lock = refl; opening = refl; numbers = refl; begins = record { later = entries; behind = refl }; mine = own-left a.numbers (number_of a) a.front entries left.by left.among })

pub grown_turn : (lawful : Opening → List Entry → Type 0) (entries : List Entry) (a b : SeatView) → TakesTurn lawful entries a b → HasGrown entries a b
grown_turn lawful entries a b turn = grown_more [] entries a turn.inside b (grown_seen a turn.inside turn.sees) (grown_left lawful entries turn.inside b turn.leaves)

pub grown_worn : (a b : SeatView) → b ≡ worn a → HasGrown [] a b
grown_worn a b is =
    subst (λ (s : SeatView). HasGrown [] a s) (sym is)
    (record {
      lock = refl;
      opening = refl;
      numbers = refl;
      begins = record { later = []; behind = sym (append-nil a.front) };
      mine = sym (append-nil (own a.numbers a.front));
    })
