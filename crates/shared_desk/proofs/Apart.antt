-- The seats of a hub's locks when one pass is left of all.
use Rattle.std.proofs.Common.{◌≡◌, ◌++◌, ◌||◌, ℕ, Bool, true, false, List, [], ◌∷◌, Option, refl, sym, ap, subst, ◌∙◌, arith, length}
use Rattle.std.proofs.lemmas.List.{append_assoc}
use Rattle.std.proofs.lemmas.List.Folds.{list_any-append}
use Rattle.js_base.specs.Bytes.{has}
use Rattle.js_model.specs.declared.stream.State.{State}
use Rattle.place_engine.specs.Stepping.{Image, Seen}
use Rattle.histories.specs.Entries.{Opening, OfPlace, OfRouter, OfCatalog}
use Rattle.hub_place.specs.Kinds.{PlaceIs}
use Rattle.turn_lock.specs.Calls.{HasAll}
use Rattle.turn_lock.specs.Seats.{LockView, SeatView}
use Rattle.shared_desk.specs.Histories.{all_numbers}
use Rattle.hub_fronts.specs.Fronts.{SharedScene}
use Rattle.desk_places.specs.declared.faults.Closed.{Closed}
use Rattle.shared_desk.specs.Hubs.{HubView}
use Rattle.shared_desk.specs.Joining.{HasAllSeats, TakesApart, TakesIn, UnlockRow, UnlocksEach, UnlocksOne}
use Rattle.shared_desk.specs.Passes.{port_number, port_numbers}

-- ---- numbers

either_way : (a b : Bool) → (a || b) ≡ true → (b || a) ≡ true
either_way true true h = refl
either_way true false h = refl
either_way false true h = refl
either_way false false h = h

-- in whichever order two lists of numbers stand
pub has_all_turned : (seats : ℕ) (xs ys : List ℕ) → HasAll seats (xs ++ ys) → HasAll seats (ys ++ xs)
has_all_turned seats xs ys h n less =
    list_any-append _ ys xs ∙ either_way (has xs n) (has ys n) (sym (list_any-append _ xs ys) ∙ h n less)

-- a seat that took others in has their numbers, and then its own
pub taken_numbers : (seat : SeatView) (ports : List SeatView) (all : SeatView) → TakesIn seat ports all → all.numbers ≡ all_numbers ports ++ seat.numbers
taken_numbers seat [] all h = sym (ap (λ (s : SeatView). s.numbers) h)
taken_numbers seat (port ∷ ports) all h =
    h.2.numbers ∙ (ap (λ (ns : List ℕ). port.numbers ++ ns) (taken_numbers seat ports h.0 h.1) ∙ sym (append_assoc port.numbers (all_numbers ports) seat.numbers))

-- ---- the ports

module _ {P V : Type 0} (seen : P → Seen) (vol : P → V) (holds : Image → State → Type 0) (left : V → ℕ → Image → Type 0) (clock : V → ℕ) (base : Option ℕ → V → State → Type 0) (keeps : V → V → Type 0) where
  port_is : (of : LockView) (seat : SeatView) (place : P) (port : SeatView) → UnlocksOne seen vol holds left clock base keeps of seat place port → port.numbers ≡ port_number of.opening
  port_is of seat place port h = by seat.opening h.stands ∙ ap port_number h.all.opening
    where
      by : (o : Opening) → PlaceIs holds left clock base keeps o seat.front (seen place).place (vol place) port → port.numbers ≡ port_number o
      by (OfPlace state faults id) stands = stands.seat.numbers
      by OfRouter stands = absurd stands
      by (OfCatalog catalog) stands = absurd stands

  ports_are : (locks : List LockView) (seats : List SeatView) (row : List P) (ports : List SeatView) → UnlockRow seen vol holds left clock base keeps locks seats row ports → all_numbers ports ≡ port_numbers locks
  ports_are [] [] [] [] h = refl
  ports_are [] [] [] (port ∷ ports) h = absurd h
  ports_are [] [] (place ∷ row) ports h = absurd h
  ports_are [] (seat ∷ seats) row ports h = absurd h
  ports_are (of ∷ locks) [] row ports h = absurd h
  ports_are (of ∷ locks) (seat ∷ seats) [] ports h = absurd h
  ports_are (of ∷ locks) (seat ∷ seats) (place ∷ row) [] h = absurd h
  ports_are (of ∷ locks) (seat ∷ seats) (place ∷ row) (port ∷ ports) h = λ i. port_is of seat place port h.0 i ++ ports_are locks seats row ports h.1 i

  pub rows_long : (locks : List LockView) (seats : List SeatView) (row : List P) (ports : List SeatView) → UnlockRow seen vol holds left clock base keeps locks seats row ports → length row ≡ length locks
  rows_long [] [] [] [] h = refl
  rows_long [] [] [] (port ∷ ports) h = absurd h
  rows_long [] [] (place ∷ row) ports h = absurd h
  rows_long [] (seat ∷ seats) row ports h = absurd h
  rows_long (of ∷ locks) [] row ports h = absurd h
  rows_long (of ∷ locks) (seat ∷ seats) [] ports h = absurd h
  rows_long (of ∷ locks) (seat ∷ seats) (place ∷ row) [] h = absurd h
  rows_long (of ∷ locks) (seat ∷ seats) (place ∷ row) (port ∷ ports) h = let more = rows_long locks seats row ports h.1 in omega (arith, more)

  -- the seat of all passes at the router and the ports are all seats of the router
  pub router_whole : (seats : ℕ) (locks : List LockView) (places : List SeatView) (row : List P) (old new : SeatView) → UnlocksEach seen vol holds left clock base keeps locks places row old new
      → HasAll seats (old.numbers ++ port_numbers locks) → HasAll seats new.numbers
  router_whole seats locks places row old new h all =
      subst (HasAll seats) (sym (taken_numbers old h.ports new h.joined ∙ ap (λ (ns : List ℕ). ns ++ old.numbers) (ports_are locks places row h.ports h.row_is)))
      (has_all_turned seats old.numbers (port_numbers locks) all)

-- ---- one pass is left of all

module _ (hub here : HubView) (pass there : SharedScene) (same_hub : here ≡ hub) (same_pass : there ≡ pass) where
  moved : HasAllSeats hub pass → HasAllSeats here there
  moved all = subst (λ (v : HubView). HasAllSeats v there) (sym same_hub) (subst (λ (v : SharedScene). HasAllSeats hub v) (sym same_pass) all)

  pub router_all : (seat : SeatView) → HasAllSeats hub pass → there.fronts.router ≡ seat → HasAll here.router.seats (seat.numbers ++ port_numbers here.places)
  router_all seat all is = subst (λ (s : SeatView). HasAll here.router.seats (s.numbers ++ port_numbers here.places)) is (moved all).router

  pub catalog_all : (seat : SeatView) → HasAllSeats hub pass → there.fronts.catalog ≡ seat → HasAll here.catalog.seats seat.numbers
  catalog_all seat all is = subst (λ (s : SeatView). HasAll here.catalog.seats s.numbers) is (moved all).catalog

  pub apart_so : {P V : Type 0} (seen : P → Seen) (vol : P → V) (holds : Image → State → Type 0) (reads : V → Image → Type 0) (left : V → ℕ → Image → Type 0) (clock : V → ℕ) (base : Option ℕ → V → State → Type 0)
      (keeps : V → V → Type 0) (closed : Closed V) → TakesApart seen vol holds reads left clock base keeps here there closed → TakesApart seen vol holds reads left clock base keeps hub pass closed
  apart_so seen vol holds reads left clock base keeps closed h =
      subst (λ (v : HubView). TakesApart seen vol holds reads left clock base keeps v pass closed) same_hub
      (subst (λ (v : SharedScene). TakesApart seen vol holds reads left clock base keeps here v closed) same_pass h)
