-- Whether there is room for what is asked of a place: both logs do for whatever it then comes to, and its message has room in the file where it goes. What makes the
-- place come to no more needs none.
use Rattle.std.specs.Prelude.{◌≡◌, ◌≤◌, ◌+◌, ◌==◌, ◌&&◌, ◌||◌, ℕ, Bool, true, false, IsTrue, List, length, filter, Option, None, Some, ⊤}
use Rattle.js_base.specs.declared.spot.Spot.{Spot}
use Rattle.js_model.specs.declared.event.Publish.{Publish}
use Rattle.js_model.specs.declared.event.What.{What}
use Rattle.js_model.specs.declared.event.What.TheVariants as whats
use Rattle.js_model.specs.declared.stream.State.{State}
use Rattle.js_model.specs.Runs.{is_few}
use Rattle.effects.specs.declared.effect.Effect.{Effect}
use Rattle.op_records.specs.Allowed.{is_put}
use Rattle.op_records.specs.Blocks.{spelled_message}
use Rattle.block_table.specs.declared.block.Block.{Block}
use Rattle.block_table.specs.Blocks.{Blocks}
use Rattle.block_writing.specs.Planning.{message_by}
use Rattle.snapshot_bound.specs.Asking.{event_growth}
use Rattle.stream_store.specs.Placing.{can_place, has_room, spot_behind, used_behind}
use Rattle.stream_store.specs.Rooms.{is_reserved, reaches}
use Rattle.stream_store.specs.StoreState.{StoreState}
use Rattle.volume_place.specs.Growing.{bound_after}

-- how many bytes the message of a publish has in a block; its sequence and its moment are of one length, whatever they are
abbrev pub block_length : Publish → ℕ
block_length p = length (spelled_message (message_by 0 0 p.subject p.headers p.payload))

abbrev pub is_reached : Option Block → Option Spot → Bool
is_reached reach None = false
is_reached reach (Some spot) = reaches reach spot

-- the message of a publish has room where it goes behind what waits; nothing else stores one
abbrev pub is_reached_by : StoreState → List Effect → What → Bool
is_reached_by store waiting (whats.Publish p) = is_reached store.rooms.reach (spot_behind store.blocks waiting (block_length p))
is_reached_by store waiting _ = true

-- no block is free for the message of a publish
abbrev pub has_no_spot : Blocks → List Effect → What → Type 0
has_no_spot b waiting (whats.Publish p) = has_room b waiting (block_length p) ≡ false
has_no_spot b waiting _ = ⊥

abbrev pub room_for : (fixed : ℕ) → StoreState → State → List Effect → What → Bool
room_for fixed store state waiting what =
    event_growth state what == 0 || (is_reserved store.rooms (bound_after fixed state what) && is_reached_by store waiting what)

-- Of a stopped place nothing is asked any more.
abbrev pub room_in : Option ℕ → (fixed : ℕ) → StoreState → State → List Effect → What → Bool
room_in None fixed store state waiting what = room_for fixed store state waiting what
room_in (Some count) fixed store state waiting what = true

-- how many messages such records store
abbrev pub stored_by : List Effect → ℕ
stored_by effects = length (filter is_put effects)

-- Each message that waits has its place in a block. As long as few messages count, there is a file for each of them at most, and one more, which a block has
-- that is written on though its messages are gone.
pub record HasBlocks (b : Blocks) (waiting : List Effect) (stored : ℕ) : Type 0 where
  pub placed : IsTrue (can_place b waiting)
  pub few : is_few stored ≡ true → used_behind b waiting ≤ stored + 1

-- of a place that goes on
abbrev pub MayStore : Option ℕ → Blocks → List Effect → ℕ → Type 0
MayStore None b waiting stored = HasBlocks b waiting stored
MayStore (Some count) b waiting stored = ⊤

-- so many messages more are counted, all of them as long as few count
pub record IsCounted (old made new : ℕ) : Type 0 where
  pub none : made ≡ 0 → new ≡ old
  pub most : new ≤ old + made
  pub all : is_few new ≡ true → old + made ≤ new
