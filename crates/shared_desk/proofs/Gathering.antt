-- Seats that became one: what each had seen and left is there.
use Rattle.std.proofs.Common.{◌≡◌, ◌++◌, ◌||◌, ℕ, Bool, true, false, List, [], ◌∷◌, refl, sym, ap, subst, ◌∙◌, append-nil}
use Rattle.std.specs.List.{AllByRecursion}
use Rattle.std.proofs.lemmas.List.Folds.{list_any-append}
use Rattle.js_base.specs.Bytes.{has}
use Rattle.js_model.specs.Lists.{Apart}
use Rattle.histories.specs.Entries.{Entry, seat_of}
use Rattle.histories.specs.Fronts.{AreForeign, Begins, Grows, own}
use Rattle.histories.proofs.Own.{grows-same, grows-both, own-grows}
use Rattle.turn_lock.specs.Calls.{IsJoined}
use Rattle.turn_lock.specs.Seats.{SeatView}
use Rattle.shared_desk.specs.Histories.{AreAllOf, AreApart, all_numbers}

-- the seat has seen what each of these had, and has their numbers, no two of which are in common
pub record Gathers (seats : List SeatView) (all : SeatView) : Type 0 where
  pub numbers : all.numbers ≡ all_numbers seats
  pub grown : AllByRecursion (λ (seat : SeatView). Grows seat.numbers seat.front all.front) seats
  pub apart : AreApart seats

pub gathers_one : (seat : SeatView) → Gathers (seat ∷ []) seat
gathers_one seat = record { numbers = sym (append-nil seat.numbers); grown = (grows-same seat.numbers seat.front, tt); apart = (tt, tt) }

-- ---- fewer numbers

-- the first numbers are among the others
abbrev AreAmong : List ℕ → List ℕ → Type 0
AreAmong few many = (n : ℕ) → has many n ≡ false → has few n ≡ false

either_left : (a b : Bool) → (a || b) ≡ false → a ≡ false
either_left true b h = absurd (cc)
either_left false b h = refl

either_right : (a b : Bool) → (a || b) ≡ false → b ≡ false
either_right true b h = absurd (cc)
either_right false b h = h

has-append : (xs ys : List ℕ) (n : ℕ) → has (xs ++ ys) n ≡ (has xs n || has ys n)
has-append xs ys n = list_any-append _ xs ys

among_left : (xs ys : List ℕ) → AreAmong xs (xs ++ ys)
among_left xs ys = λ n none. either_left (has xs n) (has ys n) (sym (has-append xs ys n) ∙ none)

among_right : (xs ys few : List ℕ) → AreAmong few ys → AreAmong few (xs ++ ys)
among_right xs ys few h = λ n none. h n (either_right (has xs n) (has ys n) (sym (has-append xs ys n) ∙ none))

foreign_to : (few many : List ℕ) → AreAmong few many → (entries : List Entry) → AreForeign many entries → AreForeign few entries
foreign_to few many h [] f = tt
foreign_to few many h (e ∷ entries) f = (h (seat_of e) f.0, foreign_to few many h entries f.1)

-- each of these seats has numbers that are among them
each_among : (seats : List SeatView) → AllByRecursion (λ (seat : SeatView). AreAmong seat.numbers (all_numbers seats)) seats
each_among [] = tt
each_among (s ∷ seats) = (among_left s.numbers (all_numbers seats), behind seats (each_among seats))
  where
    behind : (more : List SeatView) → AllByRecursion (λ (seat : SeatView). AreAmong seat.numbers (all_numbers seats)) more
        → AllByRecursion (λ (seat : SeatView). AreAmong seat.numbers (s.numbers ++ all_numbers seats)) more
    behind [] h = tt
    behind (t ∷ more) h = (among_right s.numbers (all_numbers seats) t.numbers h.0, behind more h.1)

-- ---- one more seat

module _ (seat all new : SeatView) (joined : IsJoined seat all new) where
  grown_on : (seats : List SeatView) → AllByRecursion (λ (s : SeatView). AreAmong s.numbers all.numbers) seats → AllByRecursion (λ (s : SeatView). Grows s.numbers s.front all.front) seats
      → AllByRecursion (λ (s : SeatView). Grows s.numbers s.front new.front) seats
  grown_on [] among grown = tt
  grown_on (s ∷ seats) among grown = (
    grows-both s.numbers s.front all.front new.front grown.0
        (record { later = joined.second.later; behind = joined.second.behind; foreign = foreign_to s.numbers all.numbers among.0 joined.second.later joined.second.foreign }),
    grown_on seats among.1 grown.1,
  )

  apart_from : (seats : List SeatView) → AllByRecursion (λ (s : SeatView). AreAmong s.numbers all.numbers) seats → AllByRecursion (λ (s : SeatView). Apart seat.numbers s.numbers) seats
  apart_from [] among = tt
  apart_from (s ∷ seats) among = (record { apart = λ n there. among.0 n (joined.apart.apart n there) }, apart_from seats among.1)

  pub gathers_more : (seats : List SeatView) → Gathers seats all → Gathers (seat ∷ seats) new
  gathers_more seats g =
      let among : AllByRecursion (λ (s : SeatView). AreAmong s.numbers all.numbers) seats =
      subst (λ (ns : List ℕ). AllByRecursion (λ (s : SeatView). AreAmong s.numbers ns) seats) (sym g.numbers) (each_among seats)
      in
      record {
        numbers = joined.numbers ∙ ap (λ (ns : List ℕ). seat.numbers ++ ns) g.numbers;
        grown = (joined.first, grown_on seats among g.grown);
        apart = (apart_from seats among, g.apart);
      }

-- ---- the end

begun : (seats : List SeatView) (history : List Entry) → AllByRecursion (λ (s : SeatView). Grows s.numbers s.front history) seats → AllByRecursion (λ (s : SeatView). Begins history s.front) seats
begun [] history h = tt
begun (s ∷ seats) history h = (record { later = h.0.later; behind = h.0.behind }, begun seats history h.1)

own_once : (seats : List SeatView) (history : List Entry) → AllByRecursion (λ (s : SeatView). Grows s.numbers s.front history) seats → AllByRecursion (λ (s : SeatView). own s.numbers history ≡ own s.numbers s.front) seats
own_once [] history h = tt
own_once (s ∷ seats) history h = (own-grows s.numbers s.front history h.0, own_once seats history h.1)

-- if the seat has seen only entries of its own, its front is the one history
pub all_of : (seats : List SeatView) (all : SeatView) → Gathers seats all → own all.numbers all.front ≡ all.front → AreAllOf seats all.front
all_of seats all g whole = record {
  begins = begun seats all.front g.grown;
  once = own_once seats all.front g.grown;
  apart = g.apart;
  no_others = ap (λ (ns : List ℕ). own ns all.front) (sym g.numbers) ∙ whole;
}
