-- What follows for a caller of many from the entries of its desk, by the definitions alone.
use Rattle.std.specs.Prelude.{◌≡◌, ℕ, true, false, List, [], ◌++◌, Some, slice_get}
use Rattle.js_model.specs.declared.stream.State.{State}
use Rattle.js_model.specs.declared.entry.PlaceEntry.{PlaceEntry}
use Rattle.js_model.specs.Runs.{RunFrom}
use Rattle.js_api.specs.Entries.{DeskEntry}
use Rattle.js_api.specs.Outputs.{outs_of, stream_name}
use Rattle.js_api.specs.Worlds.{is_broken}
use Rattle.turn_lock.specs.Calls.{number_of}
use Rattle.turn_lock.specs.Seats.{SeatView}
use Rattle.hub_fronts.specs.Fronts.{Fronts, SharedScene}
use Rattle.hub_fronts.specs.Making.{SharedMade}
use Rattle.hub_fronts.specs.Naming.{named_behind}
use Rattle.hub_fronts.specs.Owning.{routed, looked, placed}
use Rattle.hub_fronts.specs.Turns.{HasGrown}

-- ---- a caller's own entries

-- at each lock the front has grown, and the caller's own entries there are more by those of these that stand there, once and in order
pub record HaveGrown (entries : List DeskEntry) (old new : Fronts) : Type 0 where
  pub router : HasGrown (routed (number_of old.router) entries) old.router new.router
  pub catalog : HasGrown (looked (number_of old.catalog) entries) old.catalog new.catalog
  pub places : (place : ℕ) (was : SeatView) → slice_get old.places place ≡ Some was
      → (is : SeatView) × (slice_get new.places place ≡ Some is) × HasGrown (placed place entries) was is

abbrev pub LawGrown : Type 0
LawGrown = (old new : SharedScene) (entries : List DeskEntry) → SharedMade old entries new → HaveGrown entries old.fronts new.fronts

-- ---- what a place sends

-- after a run whose entries are not broken, the stream's name is the one that they tell
abbrev pub LawNamed : Type 0
LawNamed = (count : ℕ) (old : State) (entries : List PlaceEntry) (new : State) → RunFrom count old entries new → is_broken entries ≡ false
    → stream_name new ≡ named_behind (stream_name old) entries

-- what two runs in a row send is what the first one sends, and then the second
abbrev pub LawSends : Type 0
LawSends = (count : ℕ) (old : State) (first : List PlaceEntry) (mid : State) (more : List PlaceEntry) → RunFrom count old first mid
    → (is_broken first ≡ true → more ≡ []) → outs_of old (first ++ more) ≡ outs_of old first ++ outs_of mid more
