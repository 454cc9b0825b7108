-- What it comes to that room is made for what is asked.
use Rattle.std.specs.Prelude.{◌≡◌, ◌⊎◌, ◌≤◌, ◌&&◌, ℕ, false, List, Result, Ok, Err}
use Rattle.js_base.specs.Causes.{Rose}
use Rattle.js_model.specs.declared.event.What.{What}
use Rattle.js_model.specs.declared.stream.State.{State}
use Rattle.effects.specs.declared.effect.Effect.{Effect}
use Rattle.vol_disk.specs.Disk.{Disk}
use Rattle.place_engine.specs.Preparing.{FailsPreparing, Prepared, Unprepared}
use Rattle.place_engine.specs.Stepping.{Image, Seen}
use Rattle.stream_store.specs.Reserving.{MakesRoom as Makes}
use Rattle.stream_store.specs.Rooms.{OutgrowsLogs, is_reserved}
use Rattle.stream_store.specs.StoreState.{StoreState}
use Rattle.stream_store.specs.declared.fault.RoomFault.{RoomFault}
use Rattle.stream_store.specs.declared.fault.RoomFault.TheVariants.{Fault, NoMemory}
use Rattle.volume_place.specs.Contents.{Contents}
use Rattle.volume_place.specs.Rooms.{has_no_spot, is_reached_by}
use Rattle.volume_place.specs.Seeing.{outgrows_log}

-- the log and the blocks of a store stay, whatever becomes known of its files
pub record KeepsLog (store after : StoreState) : Type 0 where
  pub log : after.log ≡ store.log
  pub blocks : after.blocks ≡ store.blocks

-- Nothing else changes of a place: what is known of its files and of its texts, and where its volume stands, by which it may be stopped.
pub record KeepsButRoom {V : Type 0} (old new : Contents V) : Type 0 where
  pub rests : new ≡ record old { store = new.store; vol = new.vol; fixed = new.fixed; stopped = new.stopped }
  pub store : KeepsLog old.store new.store

-- the base of the store stays, unless the volume failed
abbrev pub KeepsUnlessFailed : Result (Unit {0}) RoomFault → StoreState → StoreState → Disk → Disk → Type 0
KeepsUnlessFailed (Ok done) store after old new = Makes store after old new
KeepsUnlessFailed (Err NoMemory) store after old new = Makes store after old new
KeepsUnlessFailed (Err Fault) store after old new = Unit {0}

-- Why there is still no room in a store for what makes its place come to so much: the volume refused some in this call, no log is made so long, or no block is free
-- for the message.
abbrev pub LacksRoomFor : {V : Type 0} → (V → ℕ) → StoreState → List Effect → What → ℕ → V → V → Type 0
LacksRoomFor refusals store waiting what count old new =
    (is_reserved store.rooms count && is_reached_by store waiting what) ≡ false
    → Rose (refusals old) (refusals new) ⊎ (OutgrowsLogs count ⊎ has_no_spot store.blocks waiting what)

-- a crash leaves what it could leave before, or a base from before
abbrev pub KeepsImages : (Image → State → Type 0) → Seen → Seen → Type 0
KeepsImages holds old new =
    (t : ℕ) (image : Image) → t ≤ old.place.volume.moment → new.left_since t image → old.left_since t image ⊎ ((d : State) × holds image d × old.is_base d)

-- of a place that goes on
abbrev pub MakesRoom : Result (Unit {0}) RoomFault → What → Seen → Seen → Type 0
MakesRoom (Ok done) what old new = Prepared outgrows_log what old new
MakesRoom (Err NoMemory) what old new = Unprepared old new
MakesRoom (Err Fault) what old new = FailsPreparing old new
