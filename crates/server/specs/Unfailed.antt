-- That nothing of a run failed at a volume.
use Rattle.std.specs.Prelude.{◌<◌, ◌^◌, ◌-◌, ℕ, List, All, Option}
use Rattle.std.specs.List.{AllZip}
use Rattle.js_base.specs.Causes.{Rose}
use Rattle.js_model.specs.declared.stream.State.{State}
use Rattle.js_model.specs.PlaceStates.{PlaceIn}
use Rattle.js_model.specs.declared.event.What.TheVariants.{Tick}
use Rattle.place_engine.specs.Preparing.{RoomCauses}
use Rattle.place_engine.specs.Stepping.{Image}
use Rattle.js_api.specs.Entries.{DeskEntry}
use Rattle.js_desk.specs.Solo.{Solo}
use Rattle.desk_places.specs.declared.faults.Closed.{Closed}
use Rattle.desk_places.specs.declared.faults.HubFault.{HubFault}
use Rattle.server.specs.declared.words.NamedStream.{NamedStream}
use Rattle.server.specs.Attending.{run_entries}
use Rattle.server.specs.Ending.{PipeEnds, Starved, Unopened, Attended}
use Rattle.server.specs.Laws.{AreWithin, LeavesUntroubled, MayOpen}
use Rattle.server.specs.Outside.{Outside}
use Rattle.server.specs.Readable.{AreReadable}

-- this count of no volume rose until it came back
abbrev pub AreUnrisen : {V : Type 0} → (V → ℕ) → List V → List V → Type 0
AreUnrisen count vols_old vols_new = AllZip (λ before after. ¬ Rose (count before) (count after)) vols_old vols_new

-- neither the count of faults nor the one of refusals of a volume rose until it came back
pub record AreUnfailed {V : Type 0} (faults refusals : V → ℕ) (vols_old vols_new : List V) : Type 0 where
  pub unfailed : AreUnrisen faults vols_old vols_new
  pub unrefused : AreUnrisen refusals vols_old vols_new

-- its volume stands before its last generation
abbrev pub IsUnworn : PlaceIn → Type 0
IsUnworn place = place.volume.generation < 2 ^ 62 - 1

-- Of places of one kind, and the desks over them, as in `PipeEnds`:
module _ {V : Type 0} (Opens : List V → Solo V → Type 0) (Refuses : List V → HubFault V → Type 0) (Made : Solo V → List DeskEntry → Solo V → Type 0) (Closes : Solo V → Closed V → Type 0) where
  -- no log was outgrown in what was made over the desk, and at the end of that no volume was at its last generation
  abbrev pub LeavesMore : {stream : Option NamedStream} {status : ℕ} {vols_old vols_new : List V} {old new : Outside}
      → PipeEnds Opens Refuses Made Closes stream status vols_old vols_new old new → Type 0
  LeavesMore (Starved run) = Unit {0}
  LeavesMore (Unopened run) = Unit {0}
  LeavesMore {stream = stream} {old = old} {new = new} (Attended run) =
      AreWithin (run_entries run.desk.scene.world.places stream run.after.scene run.outcome.status old (record new { sink = run.sink }) run.attended.attends)
      × All IsUnworn run.after.scene.world.places

  -- Only want of memory keeps a desk from being opened on volumes that can be read, if none of them fails or refuses room, and none holds more than a log can
  -- begin with.
  abbrev pub LawReadable : (Image → State → Type 0) → (V → Image → Type 0) → (V → ℕ) → RoomCauses V → Type 0
  LawReadable holds reads faults causes = (vols_old vols_new : List V) (readable : AreReadable holds reads vols_old)
      → All (λ state. ¬ causes.outgrows_log state Tick) readable.states → AreUnfailed faults causes.refusals vols_old vols_new → MayOpen Opens Refuses Made Closes vols_old vols_new

  -- if none of them fails or refuses room, and none comes to an end of its numbers or to more than a log can begin with, they are untroubled as the desk is closed
  abbrev pub LawUnfailed : (V → ℕ) → RoomCauses V → Type 0
  LawUnfailed faults causes = (stream : Option NamedStream) (status : ℕ) (vols_old vols_new : List V) (old new : Outside)
      (run : PipeEnds Opens Refuses Made Closes stream status vols_old vols_new old new)
      → AreUnfailed faults causes.refusals vols_old vols_new → LeavesMore run → LeavesUntroubled Opens Refuses Made Closes run
