-- What holds of the ground of one caller of many before and after each call.
use Rattle.std.proofs.Common.{◌≡◌, ◌<◌, ℕ, Bool, true, false, List, map, Option, Some, None, IfSome, refl, sym, ap, subst, ◌∙◌, if◌then◌else◌}
use Rattle.std.specs.Prelude.{is_some, length, slice_get, slice_set}
use Rattle.std.specs.List.{AllZip}
use Rattle.js_model.specs.declared.desk.PlaceAt.{PlaceAt}
use Rattle.js_api.specs.declared.outcome.Became.{Became}
use Rattle.histories.specs.Entries.{Opening}
use Rattle.turn_lock.specs.Seats.{LockView, SeatView}
use Rattle.hub_place.specs.Holds.{SendsTo}
use Rattle.desk_places.specs.declared.turn.Turn.{Turn}
use Rattle.desk_places.specs.declared.turn.Turn.TheVariants as turns
use Rattle.desk_places.specs.Held.{is_held}
use Rattle.desk_places.proofs.Sets.{length_set}
use Rattle.shared_desk.specs.declared.side.Side.{Side}
use Rattle.shared_desk.specs.declared.side.Side.TheVariants as sides
use Rattle.shared_desk.specs.Grounds.{IsGrounded}
use Rattle.shared_desk.specs.Hubs.{HubView, IsHub}
use Rattle.shared_desk.specs.Passes.{IsPass, IsPassOf, scene_by}
use Rattle.shared_desk.specs.Seats.{IsSeatOf, IsSeated, seat_in, seats_in}
use Rattle.shared_desk.specs.Sides.{IsBeside}
use Rattle.shared_desk.proofs.Held.{last_after}
use Rattle.shared_desk.proofs.Rows.{row_long}
use Rattle.shared_desk.proofs.Seats.{all_at, all_there, row_is, zip_get, zip_long, zip_set}

-- ---- after each call

module _ (hub : HubView) (router : Option SeatView) (side : Side) (row : List (Option SeatView)) (last : Option PlaceAt) (turn : Turn) (g : IsGrounded hub router side row last turn) where
  last_within : (b : Bool) (at : PlaceAt) → at.place < length hub.places → IfSome (if b then Some at else last) (λ (p : PlaceAt). p.place < length hub.places)
  last_within true at within = within
  last_within false at within = g.within

  pub with_held : (at : PlaceAt) (told : Became) (of : LockView) (seat : SeatView) (new : List (Option SeatView)) (next : Turn) → at.place < length hub.places → slice_get hub.places at.place ≡ Some of → IsSeatOf of seat
      → new ≡ map Some (slice_set (seats_in row) at.place seat) → IsBeside hub.catalog next side → IsGrounded hub router side new (last_after told at last) next
  with_held at told of seat new next within there is new_is beside = record {
    is_hub = g.is_hub;
    router = g.router;
    catalog = beside;
    there = all_there new (slice_set (seats_in row) at.place seat) new_is;
    places =
        subst (λ (seats : List SeatView). AllZip IsSeatOf hub.places seats) (sym (row_is new (slice_set (seats_in row) at.place seat) new_is))
        (zip_set hub.places (seats_in row) at.place of seat g.places there is);
    within = last_within (is_held told) at within;
  }

  -- ---- a place of the row

  pub at_row : (n : ℕ) → n < length hub.places → n < length (seats_in row)
  at_row n within = subst (λ (m : ℕ). n < m) (sym (zip_long hub.places (seats_in row) g.places)) within

  pub at_rest : (n : ℕ) (rest : List (Option SeatView)) → rest ≡ slice_set row n None → n < length hub.places → n < length rest
  at_rest n rest is within = subst (λ (m : ℕ). n < m) (sym (ap (λ (r : List (Option SeatView)). length r) is ∙ (length_set row n None ∙ row_long row g.there))) (at_row n within)

  pub rest_is : (n : ℕ) (rest : List (Option SeatView)) → rest ≡ slice_set row n None → rest ≡ slice_set (map Some (seats_in row)) n None
  rest_is n rest is = is ∙ ap (λ (r : List (Option SeatView)). slice_set r n None) g.there

-- ---- before a hold

-- the seat of the place is one of its lock, and the place sends by a seat of the router
pub record IsReady (hub : HubView) (place : LockView) (seat : SeatView) : Type 0 where
  pub own : IsSeatOf place seat
  pub port : SendsTo seat.opening hub.router.lock

pub is_ready : (hub : HubView) (n : ℕ) (place : LockView) (seats : List SeatView) (seat : SeatView) → IsHub hub → AllZip IsSeatOf hub.places seats → slice_get hub.places n ≡ Some place → slice_get seats n ≡ Some seat
    → IsReady hub place seat
is_ready hub n place seats seat h all there is =
    let own : IsSeatOf place seat = zip_get hub.places seats n place seat all there is in
    record {
      own = own;
      port = subst (λ (o : Opening). SendsTo o hub.router.lock) (sym own.opening) (all_at (λ (of : LockView). SendsTo of.opening hub.router.lock) hub.places n place h.ports there);
    }

-- ---- the passes of a caller, before its calls and after them

seated_in : (of : LockView) (seat : Option SeatView) → is_some seat ≡ true → IsSeatOf of (seat_in seat) → IsSeated of seat
seated_in of None there is = absurd (cc)
seated_in of (Some seat) there is = is

seated_some : (of : LockView) (seat : Option SeatView) → IsSeated of seat → is_some seat ≡ true
seated_some of None is = absurd is
seated_some of (Some seat) is = refl

last_long : (last : Option PlaceAt) (m n : ℕ) → m ≡ n → IfSome last (λ (at : PlaceAt). at.place < m) → IfSome last (λ (at : PlaceAt). at.place < n)
last_long None m n e h = tt
last_long (Some at) m n e h = subst (λ (k : ℕ). at.place < k) e h

pub grounded_of : (hub : HubView) (router catalog : Option SeatView) (row : List (Option SeatView)) (ticked : ℕ) (last : Option PlaceAt) (seat : SeatView) → IsHub hub → IsPass router catalog row last
    → IsPassOf hub (scene_by (seat_in router) (seat_in catalog) row ticked last) → catalog ≡ Some seat → IsGrounded hub router (sides.Outside seat) row last turns.Outside
grounded_of hub router catalog row ticked last seat is_hub pass of is = record {
  is_hub = is_hub;
  router = seated_in hub.router router pass.at_router of.router;
  catalog = (refl, subst (λ (o : Option SeatView). IsSeatOf hub.catalog (seat_in o)) is of.catalog);
  there = pass.there;
  places = of.places;
  within = last_long last (length (seats_in row)) (length hub.places) (zip_long hub.places (seats_in row) of.places) pass.within;
}

module _ (hub : HubView) (router : Option SeatView) (side : Side) (row : List (Option SeatView)) (last : Option PlaceAt) (turn : Turn) (seat : SeatView) (g : IsGrounded hub router side row last turn)
    (is : side ≡ sides.Outside seat) where
  pub pass_of : IsPass router (Some seat) row last
  pass_of = record {
    at_router = seated_some hub.router router g.router;
    at_catalog = refl;
    there = g.there;
    within = last_long last (length hub.places) (length (seats_in row)) (sym (zip_long hub.places (seats_in row) g.places)) g.within;
  }
