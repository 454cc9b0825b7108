-- What is asked that needs room, and what needs none.
use Rattle.std.proofs.Common.{◌≡◌, ◌≢◌, ◌≤◌, ◌+◌, ◌^◌, ◌==◌, ◌&&◌, ◌||◌, ℕ, Bool, true, false, List, Option, None, Some, Result, Ok, Err, refl, sym, ap, subst, arith}
use Rattle.std.specs.Prelude.{IfOk, is_some, nat_le}
use Rattle.std.proofs.lemmas.Bool.{and_from, and_parts, eqb-true, le-leb, leb-true, true≢false}
use Rattle.js_base.specs.declared.spot.Spot.{Spot}
use Rattle.js_model.specs.declared.event.Publish.{Publish}
use Rattle.js_model.specs.declared.event.What.{What}
use Rattle.js_model.specs.declared.event.What.TheVariants as whats
use Rattle.js_model.specs.declared.stream.State.{State}
use Rattle.js_model.specs.Events.{asks_room}
use Rattle.effects.specs.declared.effect.Effect.{Effect}
use Rattle.snapshot_bound.specs.Asking.{event_growth}
use Rattle.snapshot_bound.specs.Bounds.{capped}
use Rattle.snapshot_bound.specs.Laws.{if_room}
use Rattle.snapshot_bound.proofs.Asked.{law_asked}
use Rattle.stream_store.specs.Placing.{has_room, spot_behind}
use Rattle.stream_store.specs.Rooms.{AreMore, AreReserved, is_reserved, reaches, spare}
use Rattle.stream_store.specs.StoreState.{StoreState}
use Rattle.stream_store.specs.declared.rooms.Rooms.{Rooms}
use Rattle.volume_place.specs.Growing.{bound_after}
use Rattle.volume_place.specs.Rooms.{block_length, is_reached, is_reached_by, room_for, room_in}

-- ---- logs that do for so much

more_of : (a b c : ℕ) → b ≤ c → nat_le a b ≡ true → nat_le a c ≡ true
more_of a b c more is = let le = leb-true a b is in le-leb a c (omega (arith, more, le))

less_of : (a b c : ℕ) → a ≤ b → nat_le (b + spare) c ≡ true → nat_le (a + spare) c ≡ true
less_of a b c less is = let le = leb-true (b + spare) c is in le-leb (a + spare) c (omega (arith, less, le))

-- with more room they do for it still
pub reserved_more : (old new : Rooms) (count : ℕ) → AreMore old new → AreReserved old count → AreReserved new count
reserved_more old new count more is =
    let parts = and_parts (nat_le (count + spare) old.zero) (nat_le (count + spare) old.one) is in
    and_from (nat_le (count + spare) new.zero) (nat_le (count + spare) new.one)
    (more_of (count + spare) old.zero new.zero more.in_zero parts.0) (more_of (count + spare) old.one new.one more.in_one parts.1)

-- and for less
pub reserved_less : (rooms : Rooms) (count less : ℕ) → less ≤ count → AreReserved rooms count → AreReserved rooms less
reserved_less rooms count less le is =
    let parts = and_parts (nat_le (count + spare) rooms.zero) (nat_le (count + spare) rooms.one) is in
    and_from (nat_le (less + spare) rooms.zero) (nat_le (less + spare) rooms.one) (less_of less count rooms.zero le parts.0) (less_of less count rooms.one le parts.1)

-- ---- whether there is room

-- what is raised by nothing has it
pub unraised_room : (known : ℕ) (store : StoreState) (state : State) (waiting : List Effect) (what : What) → event_growth state what ≡ 0 → room_for known store state waiting what ≡ true
unraised_room known store state waiting what none =
    ap (λ (n : ℕ). n == 0 || (is_reserved store.rooms (bound_after known state what) && is_reached_by store waiting what)) none

-- and so does what asks for none
pub quiet_room : (o : Option ℕ) (known : ℕ) (store : StoreState) (state : State) (waiting : List Effect) (what : What) → asks_room what ≡ false → room_in o known store state waiting what ≡ true
quiet_room None known store state waiting what quiet = unraised_room known store state waiting what (law_asked.unasked state what quiet)
quiet_room (Some count) known store state waiting what quiet = refl

-- what needs some has it in the logs, and where its message goes
pub needed : (known : ℕ) (store : StoreState) (state : State) (waiting : List Effect) (what : What) → event_growth state what ≢ 0 → room_for known store state waiting what ≡ true
    → AreReserved store.rooms (bound_after known state what) × (is_reached_by store waiting what ≡ true)
needed known store state waiting what some is = and_parts (is_reserved store.rooms (bound_after known state what)) (is_reached_by store waiting what) (go (event_growth state what == 0) refl is)
  where
    go : (b : Bool) → (event_growth state what == 0) ≡ b → (b || (is_reserved store.rooms (bound_after known state what) && is_reached_by store waiting what)) ≡ true
        → (is_reserved store.rooms (bound_after known state what) && is_reached_by store waiting what) ≡ true
    go true none h = absurd (some (eqb-true (event_growth state what) 0 none))
    go false none h = h

-- the texts take no more than a log can begin with
pub fixed_fits : (known part counts growth count : ℕ) (room : Bool) → count ≡ capped (known + counts + growth) → part ≤ growth → count + spare ≤ 2 ^ 31 → known + if_room room part ≤ 2 ^ 31
fixed_fits known part counts growth count true is le short = omega (arith, is, le, short)
fixed_fits known part counts growth count false is le short = omega (arith, is, short)

pub all_fit : {E : Type 0} (known part : ℕ) (result : Result Bool E) → ((room : Bool) → known + if_room room part ≤ 2 ^ 31) → IfOk result (λ room. known + if_room room part ≤ 2 ^ 31)
all_fit {E} known part (Ok room) each = each room
all_fit {E} known part (Err e) each = tt

-- the spot that is reached
pub record Reached (store : StoreState) (waiting : List Effect) (p : Publish) : Type 0 where
  pub spot : Spot
  pub spot_is : spot_behind store.blocks waiting (block_length p) ≡ Some spot
  pub reached : reaches store.rooms.reach spot ≡ true

pub reached_spot : (store : StoreState) (waiting : List Effect) (p : Publish) → is_reached_by store waiting (whats.Publish p) ≡ true → Reached store waiting p
reached_spot store waiting p is = go (spot_behind store.blocks waiting (block_length p)) refl is
  where
    go : (o : Option Spot) → spot_behind store.blocks waiting (block_length p) ≡ o → is_reached store.rooms.reach o ≡ true → Reached store waiting p
    go None spot_is h = absurd (true≢false (sym h))
    go (Some spot) spot_is h = record { spot = spot; spot_is = spot_is; reached = h }

pub has_spot : (store : StoreState) (waiting : List Effect) (p : Publish) → is_reached_by store waiting (whats.Publish p) ≡ true → has_room store.blocks waiting (block_length p) ≡ true
has_spot store waiting p is =
    let r = reached_spot store waiting p is in
    subst (λ (o : Option Spot). is_some o ≡ true) (sym r.spot_is) refl
