-- What a crash over a run of the program may leave of its volumes.
use Rattle.std.specs.Prelude.{◌≡◌, ◌≤◌, ◌⊎◌, ℕ, List, Option, None, Some, slice_get}
use Rattle.std.specs.List.{AllZip}
use Rattle.js_model.specs.declared.stream.State.{State}
use Rattle.js_model.specs.Lasting.{lasting}
use Rattle.js_model.specs.PlaceStates.{PlaceIn}
use Rattle.place_engine.specs.declared.faults.OpenFault.{OpenFault}
use Rattle.place_engine.specs.declared.faults.PlaceFault.{PlaceFault}
use Rattle.place_engine.specs.Opening.{AllHold}
use Rattle.place_engine.specs.Stepping.{Image, Seen}
use Rattle.place_engine.specs.Preparing.{RoomCauses}
use Rattle.js_api.specs.Entries.{DeskEntry}
use Rattle.crash_laws.specs.Beginnings.{IsLastingOf}
use Rattle.crash_laws.specs.Timed.{timed_at}
use Rattle.server.specs.declared.words.NamedStream.{NamedStream}
use Rattle.server.specs.Attending.{run_entries}
use Rattle.server.specs.Kinds.{EndsAttended, EndsStarved, EndsUnopened}
use Rattle.server.specs.Outside.{Outside}

-- Of a kind of place: what contracts see of it, its volume, which state an image holds, what reads of a volume give and what a crash may have left of it, its
-- moment, its faults and why there may be no room, which states it may hold, to which states a place may be opened on it and why not, and what a call may make of it.
module _ {P V : Type 0} (seen : P → Seen) (vol : P → V) (holds : Image → State → Type 0) (reads : V → Image → Type 0) (left : V → ℕ → Image → Type 0) (clock faults : V → ℕ) (causes : RoomCauses V)
    (base : Option ℕ → V → State → Type 0) (opens : V → State → Type 0) (refuses : V → OpenFault → Type 0) (keeps : V → V → Type 0) where
  -- Of a place that was opened in this state on a volume, and stands in that one at the end of the run, with its volume then: if the volume held all of what
  -- it was opened to, then each image of a crash at some moment since the run began holds what outlives a crash of the state behind a beginning of what was
  -- made there, with all that were confirmed by then.
  abbrev pub Outlives : List DeskEntry → ℕ → V → State → State → V → Type 0
  Outlives entries number before opened after end =
      AllHold holds reads left clock before opened → (t : ℕ) (image : Image) → clock before ≤ t → left end t image
      → (l : State) × holds image l × IsLastingOf t opened (timed_at number entries) after l

  -- The place of this number stands there at the end of the run, and this is its volume then. If no place failed in the closing and this one is not stopped,
  -- then the volume holds all that outlives a crash of its state, and nothing else.
  pub record PlaceOutlives (entries : List DeskEntry) (number : ℕ) (before : V) (opened : State) (places : List PlaceIn) (vols : List V) (failed : Option (ℕ × PlaceFault)) : Type 0 where
    pub after : PlaceIn
    pub end : V
    pub is_there : slice_get places number ≡ Some after
    pub is_vol : slice_get vols number ≡ Some end
    pub outlives : Outlives entries number before opened after.state end
    pub flushed : failed ≡ None → after.stopped ≡ None → AllHold holds reads left clock end (lasting after.state)

  -- so it is with each place of a run
  abbrev pub LawRunOutlives : Type 0
  LawRunOutlives = (stream : Option NamedStream) (status : ℕ) (vols_old vols_new : List V) (old new : Outside) (run : EndsAttended seen vol holds reads left clock faults causes base opens refuses keeps stream status vols_old vols_new old new)
      (number : ℕ) (before : V) (opened : PlaceIn) → slice_get vols_old number ≡ Some before → slice_get run.desk.scene.world.places number ≡ Some opened
      → PlaceOutlives (run_entries run.desk.scene.world.places stream run.after.scene run.outcome.status old (record new { sink = run.sink }) run.attended.attends)
      number before opened.state run.after.scene.world.places vols_new run.closed.failed

  -- ---- of a run that ended before its places were opened

  -- The volume holds this state: a place may be opened to it, reads give something, and all that they give holds it, as does each image that a crash now may
  -- leave.
  pub record HoldsAll (before : V) (state : State) : Type 0 where
    pub opened : opens before state
    pub image : Image
    pub read : reads before image
    pub all : AllHold holds reads left clock before state

  -- what the volume held, each image of a crash at some moment since then holds, so that it opens to what it would have opened to
  abbrev pub StillHolds : V → V → Type 0
  StillHolds before after = (state : State) → HoldsAll before state → (t : ℕ) (image : Image) → clock before ≤ t → left after t image → holds image state

  -- so it is with each volume of a run that ended with status 4 or 5 since no desk was opened, or for want of memory
  abbrev pub LawUnopenedHolds : Type 0
  LawUnopenedHolds = (status : ℕ) (vols_old vols_new : List V) (old new : Outside)
      → EndsStarved seen vol holds reads left clock faults causes base opens refuses keeps status vols_old vols_new old new ⊎ EndsUnopened seen vol holds reads left clock faults causes base opens refuses keeps status vols_old vols_new old new → AllZip StillHolds vols_old vols_new
