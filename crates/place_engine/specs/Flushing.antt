-- What a place promises of a flush, in memory and on a volume alike: all that was made is brought to the volume.
use Rattle.std.specs.Prelude.{◌≡◌, ◌-◌, ◌^◌, [], None, Some, Result, Ok, Err}
use Rattle.js_base.specs.Causes.{Rose}
use Rattle.js_model.specs.declared.stream.State.{State}
use Rattle.place_engine.specs.Stepping.{Image, Seen, Elapses, IsFlushed, IsStopped, KeepsBase, LeavesVolume, MayKeepBase, Rests}
use Rattle.place_engine.specs.declared.faults.PlaceFault.{PlaceFault}
use Rattle.place_engine.specs.declared.faults.PlaceFault.TheVariants.{NoMemory, StoreFault, Stopped, Gone, Worn}
use Rattle.place_engine.specs.declared.faults.Left.TheVariants.{Nothing, Ticked, Unsaid}

-- the place was not stopped, and what stands there is as it was
pub record KeepsState (old new : Seen) : Type 0 where
  pub going : old.place.stopped ≡ None
  pub state : new.place.state ≡ old.place.state
  pub stored : new.place.stored ≡ old.place.stored

-- all that was made is on the volume, and nothing waits
pub record Flushed (old new : Seen) : Type 0 where
  pub keeps : KeepsState old new
  pub goes : new.place.stopped ≡ None
  pub flushed : IsFlushed new

-- nothing was committed
pub record Unflushed (old new : Seen) : Type 0 where
  pub going : old.place.stopped ≡ None
  pub rests : Rests old new [] []
  pub volume : LeavesVolume old new

-- the volume failed, and the place is stopped at the count that its volume has then
pub record FailsFlush (old new : Seen) : Type 0 where
  pub keeps : KeepsState old new
  pub stops : new.place.stopped ≡ Some new.place.volume.faults
  pub cause : Rose old.place.volume.faults new.place.volume.faults
  pub base : MayKeepBase old new

-- nothing was committed, since the numbers of the store's generations are used up
pub record WearsFlush (old new : Seen) : Type 0 where
  pub unflushed : Unflushed old new
  pub last : new.place.volume.generation ≡ 2 ^ 62 - 1

abbrev pub EndsFlush : Result (Unit {0}) PlaceFault → Seen → Seen → Type 0
EndsFlush (Ok done) old new = Flushed old new
EndsFlush (Err (NoMemory Nothing)) old new = Unflushed old new
EndsFlush (Err (NoMemory Ticked)) old new = ⊥
EndsFlush (Err (NoMemory (Unsaid refused))) old new = ⊥
EndsFlush (Err StoreFault) old new = FailsFlush old new
EndsFlush (Err (Stopped count)) old new = IsStopped count old new [] []
EndsFlush (Err (Gone kept)) old new = ⊥
EndsFlush (Err (Worn refused)) old new = WearsFlush old new

-- what the call came to, and what a crash may have left since it began
pub record Flushes (holds : Image → State → Type 0) (result : Result (Unit {0}) PlaceFault) (old new : Seen) : Type 0 where
  pub ends : EndsFlush result old new
  pub time : Elapses holds old new
