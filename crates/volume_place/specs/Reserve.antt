-- The room that a place keeps: whatever waits can be committed, in the log if it has room, and else in the next one.
use Rattle.std.specs.Prelude.{◌≡◌, ◌⊎◌, ◌≤◌, ◌^◌, ℕ, List, [], Option, None, Some}
use Rattle.js_model.specs.declared.stream.State.{State}
use Rattle.effects.specs.Durables.{durable_of}
use Rattle.effects.specs.declared.durable.Durable.{Durable}
use Rattle.effects.specs.declared.effect.Effect.{Effect}
use Rattle.vol_disk.specs.Disk.{Disk}
use Rattle.snapshot_bound.specs.Bounds.{bound, bound_with, fixed as fixed_in}
use Rattle.stream_store.specs.Reserving.{HasMessageRoom}
use Rattle.stream_store.specs.Rooms.{AreReserved}
use Rattle.stream_store.specs.StoreState.{StoreState}
use Rattle.stream_store.specs.declared.rooms.Rooms.{Rooms}
use Rattle.place_engine.specs.Places.{IsVacant}

-- Both logs do for a next log that begins with what stands; but a vacant place for which nothing waits keeps no room.
abbrev pub KeepsReserve : Rooms → List Effect → (known : ℕ) → State → Type 0
KeepsReserve rooms waiting known state = (IsVacant state × (waiting ≡ [])) ⊎ AreReserved rooms (bound_with known state)

-- so they do for what was read
abbrev pub KeepsReserveOf : Rooms → Durable → Type 0
KeepsReserveOf rooms read = (read.body ≡ None) ⊎ AreReserved rooms (bound read)

-- and each message that waits has room in the file where it goes
pub record HasRooms (told : Type 0) (disk : Disk) (store : StoreState) (waiting : List Effect) (known : ℕ) (state : State) : Type 0 where
  pub logs : KeepsReserve store.rooms waiting known state
  pub messages : told → HasMessageRoom store.blocks waiting disk

-- of a place that goes on
abbrev pub MayCommit : Option ℕ → Type 0 → Disk → StoreState → List Effect → (known : ℕ) → State → Type 0
MayCommit None told disk store waiting known state = HasRooms told disk store waiting known state
MayCommit (Some count) told disk store waiting known state = Unit {0}

-- its texts take no more than is known
pub record HasReserve (told : Type 0) (disk : Disk) (store : StoreState) (waiting : List Effect) (stopped : Option ℕ) (known : ℕ) (state : State) : Type 0 where
  pub fixed_is : fixed_in (durable_of state) ≤ known
  pub fixed_fits : known ≤ 2 ^ 31
  pub rooms : MayCommit stopped told disk store waiting known state
