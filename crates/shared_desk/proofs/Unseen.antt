-- Seats that have seen nothing, which became one.
use Rattle.std.proofs.Common.{◌≡◌, ◌++◌, ◌||◌, ◌<◌, ℕ, Bool, true, false, List, [], ◌∷◌, refl, sym, ap, subst, ◌∙◌, arith, length}
use Rattle.std.specs.List.{AllByRecursion}
use Rattle.std.proofs.lemmas.List.{append_assoc}
use Rattle.std.proofs.lemmas.List.Folds.{list_any-append}
use Rattle.atomic_table.specs.Seated.{TableId}
use Rattle.js_base.specs.Bytes.{has}
use Rattle.histories.specs.Entries.{Entry, seat_of}
use Rattle.histories.specs.Fronts.{AreForeign, Grows, own}
use Rattle.histories.proofs.Own.{own-foreign}
use Rattle.turn_lock.specs.Calls.{HasAll, IsJoined}
use Rattle.turn_lock.specs.Seats.{SeatView}
use Rattle.shared_desk.specs.Histories.{all_numbers}
use Rattle.shared_desk.proofs.Gathering.{Gathers, gathers_more, gathers_one}

-- ---- no entry is by one of them

neither : (a b : Bool) → a ≡ false → b ≡ false → (a || b) ≡ false
neither true b f g = absurd (cc)
neither false b f g = g

foreign_none : (entries : List Entry) → AreForeign [] entries
foreign_none [] = tt
foreign_none (e ∷ entries) = (refl, foreign_none entries)

foreign_both : (xs ys : List ℕ) (entries : List Entry) → AreForeign xs entries → AreForeign ys entries → AreForeign (xs ++ ys) entries
foreign_both xs ys [] f g = tt
foreign_both xs ys (e ∷ entries) f g =
    (list_any-append _ xs ys ∙ neither (has xs (seat_of e)) (has ys (seat_of e)) f.0 g.0, foreign_both xs ys entries f.1 g.1)

foreign_all : (seats : List SeatView) (front : List Entry) → AllByRecursion (λ (s : SeatView). Grows s.numbers s.front front) seats → AllByRecursion (λ (s : SeatView). s.front ≡ []) seats
    → AreForeign (all_numbers seats) front
foreign_all [] front grown none = foreign_none front
foreign_all (s ∷ seats) front grown none =
    foreign_both s.numbers (all_numbers seats) front
    (subst (AreForeign s.numbers) (sym (grown.0.behind ∙ ap (λ (es : List Entry). es ++ grown.0.later) none.0)) grown.0.foreign)
    (foreign_all seats front grown.1 none.1)

pub nothing_seen : (seats : List SeatView) (all : SeatView) → Gathers seats all → own all.numbers all.front ≡ all.front → AllByRecursion (λ (s : SeatView). s.front ≡ []) seats → all.front ≡ []
nothing_seen seats all g whole none =
    sym whole ∙ (ap (λ (ns : List ℕ). own ns all.front) g.numbers ∙ own-foreign (all_numbers seats) all.front (foreign_all seats all.front g.grown none))

-- ---- seats of a lock that become one, the last ones first

pub record AreJoined (seats rest : List SeatView) (all : SeatView) : Type 0 where
  pub taken : List SeatView
  pub seats_are : seats ≡ rest ++ taken
  pub gathers : Gathers taken all

pub one_taken : (seats rest : List SeatView) (seat : SeatView) → seats ≡ rest ++ seat ∷ [] → AreJoined seats rest seat
one_taken seats rest seat e = record { taken = seat ∷ []; seats_are = e; gathers = gathers_one seat }

pub more_taken : (seats mid rest : List SeatView) (seat all new : SeatView) → AreJoined seats mid all → mid ≡ rest ++ seat ∷ [] → IsJoined seat all new → AreJoined seats rest new
more_taken seats mid rest seat all new h e joined = record {
  taken = seat ∷ h.taken;
  seats_are = h.seats_are ∙ (ap (λ (ss : List SeatView). ss ++ h.taken) e ∙ append_assoc rest (seat ∷ []) h.taken);
  gathers = gathers_more seat all new joined h.taken h.gathers;
}

pub all_taken : (seats rest : List SeatView) (all : SeatView) → AreJoined seats rest all → rest ≡ [] → Gathers seats all
all_taken seats rest all h none = subst (λ (ss : List SeatView). Gathers ss all) (sym (h.seats_are ∙ ap (λ (ss : List SeatView). ss ++ h.taken) none)) h.gathers

-- ---- some are there

pub some_seats : (count : ℕ) (seats : List SeatView) → HasAll count (all_numbers seats) → 0 < count → 0 < length seats
some_seats count [] all some = absurd (none (all 0 some))
  where
    none : has [] 0 ≡ true → ⊥
    none e = cc
some_seats count (s ∷ seats) all some = omega arith

pub last_of_lock : (lock : TableId) (seats rest : List SeatView) (seat : SeatView) → seats ≡ rest ++ seat ∷ [] → AllByRecursion (λ (s : SeatView). s.lock ≡ lock) seats
    → AllByRecursion (λ (s : SeatView). s.lock ≡ lock) rest × (seat.lock ≡ lock)
last_of_lock lock seats rest seat e all = by rest (subst (AllByRecursion (λ (s : SeatView). s.lock ≡ lock)) e all)
  where
    by : (ss : List SeatView) → AllByRecursion (λ (s : SeatView). s.lock ≡ lock) (ss ++ seat ∷ []) → AllByRecursion (λ (s : SeatView). s.lock ≡ lock) ss × (seat.lock ≡ lock)
    by [] h = (tt, h.0)
    by (s ∷ ss) h = let more = by ss h.1 in ((h.0, more.0), more.1)
