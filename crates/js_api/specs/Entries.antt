-- What the calls of a desk make, entry by entry: calls of its router and of its catalog, and holds on its places.
use Rattle.std.specs.Prelude.{ℕ, Bool, List, ◌++◌, Option}
use Rattle.js_base.specs.Bytes.{Bytes}
use Rattle.js_model.specs.declared.stream.State.{State}
use Rattle.js_model.specs.declared.entry.PlaceEntry.{PlaceEntry}
use Rattle.js_model.specs.declared.desk.PlaceAt.{PlaceAt}
use Rattle.js_model.specs.PlaceStates.{VolumeAt}
use Rattle.js_model.specs.Router.{RouteCall, RouteTold}
use Rattle.js_model.specs.Catalog.{CatCall, CatTold}

-- whether somebody listens for a push consumer, to its deliver subject and as a member of its deliver group if it has one
pub record Reading : Type 0 where
  pub consumer : Bytes
  pub subject : Bytes
  pub group : Option Bytes
  pub heard : Bool

-- What became of the outputs of a hold: each was taken by the router; each was tried, and some found no memory; or the numbers of the router's
-- turns were used up before all was asked and tried, and this is the last one.
pub data Sending : Type 0 where
  Sent : Sending
  Short : Sending
  Unsent : (number : ℕ) → Sending

-- One hold on a place, with the incarnation that was asked for: what stood there, and how many messages counted against its store; what was asked of it, one
-- step after the other; then who listens for its push consumers; then deliveries; and then the routing of all that these entries send. It outgrows its log if
-- with what was asked more would stand there than a log can begin with. Where the volume stands is told before, after the steps and after all.
pub record Hold : Type 0 where
  pub at : PlaceAt
  pub before : State
  pub stored : ℕ
  pub steps : List PlaceEntry
  pub between : State
  pub readings : List Reading
  pub deliveries : List PlaceEntry
  pub after : State
  pub outgrows : Bool
  pub sending : Sending
  pub volume_before : VolumeAt
  pub volume_between : VolumeAt
  pub volume_after : VolumeAt

-- the entries of the place's run
abbrev pub entries_in : Hold → List PlaceEntry
entries_in hold = hold.steps ++ hold.deliveries

-- One entry of a desk:
--   Routed: a call of the router by the caller itself;
--   Looked: a call of the catalog. If it is joined, no other caller's entry stands between it and the caller's call of the catalog before it;
--   Turned: the look-up with which a tick begins, for the next used place after that of the caller's last tick, or, of one caller of many, after any place;
--   Resumed: a call goes on at the place of the caller's last hold, if there was one;
--   Held: a hold on a place;
--   Stirred: the volume of a place was called, and no entry of its run was made. If it failed in that, the place is stopped;
--   Halted: a place was to be held, and is stopped;
--   Missed: a place was to be held, and keeps another incarnation than was asked for;
--   Spent: a turn was to be entered, and its numbers are used up.
pub data DeskEntry : Type 0 where
  Routed : (call : RouteCall) (told : RouteTold) → DeskEntry
  Looked : (joined : Bool) (call : CatCall) (told : CatTold) → DeskEntry
  Turned : (after : ℕ) (found : Option PlaceAt) → DeskEntry
  Resumed : (last : Option PlaceAt) → DeskEntry
  Held : (hold : Hold) → DeskEntry
  Stirred : (at : PlaceAt) (before after : VolumeAt) (failed : Bool) → DeskEntry
  Halted : (at : PlaceAt) (state : State) → DeskEntry
  Missed : (at : PlaceAt) (kept : ℕ) → DeskEntry
  Spent : (number : ℕ) → DeskEntry
