-- What it comes to that all that waits is brought to the volume, or waits on.
use Rattle.std.specs.Prelude.{◌≡◌, ◌⊎◌, ℕ, List, take, Option, None, Some, Result, Ok, Err, Bool, true, false}
use Rattle.js_base.specs.declared.out.Out.{Out}
use Rattle.stream_store.specs.declared.fault.CommitFault.{CommitFault}
use Rattle.stream_store.specs.declared.fault.CommitFault.TheVariants as commit
use Rattle.place_engine.specs.Flushing.{FailsFlush, Flushed, Unflushed, WearsFlush}
use Rattle.place_engine.specs.Stepping.{Seen}
use Rattle.place_engine.specs.declared.faults.PlaceFault.{PlaceFault}
use Rattle.place_engine.specs.declared.faults.PlaceFault.TheVariants.{NoMemory, StoreFault, Stopped, Gone, Worn}
use Rattle.place_engine.specs.declared.faults.Left.TheVariants.{Nothing, Ticked, Unsaid}
use Rattle.volume_place.specs.Tail.{is_small}

abbrev pub Brings : Result (Unit {0}) CommitFault → Seen → Seen → Type 0
Brings (Ok done) old new = Flushed old new
Brings (Err commit.NoMemory) old new = Unflushed old new
Brings (Err commit.Fault) old new = FailsFlush old new
Brings (Err commit.Worn) old new = WearsFlush old new

-- ---- once something was made, which waits as the last and is urgent or not

-- all that waits is committed, since it has to be
pub record CommitsAll (urgent : Bool) (old new : Seen) : Type 0 where
  pub cause : (urgent ≡ true) ⊎ (is_small old.waiting ≡ false)
  pub all : Flushed old new

-- nothing is
pub record HoldsBack (urgent : Bool) (old new : Seen) : Type 0 where
  pub patient : urgent ≡ false
  pub small : is_small old.waiting ≡ true
  pub rests : Unflushed old new

-- it goes on only if it is known whether that is urgent
abbrev pub GoesOn : Option Bool → Seen → Seen → Type 0
GoesOn None old new = ⊥
GoesOn (Some urgent) old new = CommitsAll urgent old new ⊎ HoldsBack urgent old new

abbrev pub Concludes : Option Bool → Result (Unit {0}) CommitFault → Seen → Seen → Type 0
Concludes urgent (Ok done) old new = GoesOn urgent old new
Concludes urgent (Err commit.NoMemory) old new = Unflushed old new
Concludes urgent (Err commit.Fault) old new = FailsFlush old new
Concludes urgent (Err commit.Worn) old new = WearsFlush old new

-- What was made has this for a refusal or not; before it there were so many outputs. They stay, unless the place is stopped.
abbrev pub Confirms : Option Bool → Bool → ℕ → Result (Unit {0}) PlaceFault → Seen → Seen → List Out → List Out → Type 0
Confirms urgent refused count (Ok done) old new before after = GoesOn urgent old new × (after ≡ before)
Confirms urgent refused count (Err (NoMemory (Unsaid told))) old new before after = Unflushed old new × (told ≡ refused) × (after ≡ before)
Confirms urgent refused count (Err StoreFault) old new before after = FailsFlush old new × (after ≡ take count before)
Confirms urgent refused count (Err (NoMemory Nothing)) old new before after = ⊥
Confirms urgent refused count (Err (NoMemory Ticked)) old new before after = ⊥
Confirms urgent refused count (Err (Stopped kept)) old new before after = ⊥
Confirms urgent refused count (Err (Gone kept)) old new before after = ⊥
Confirms urgent refused count (Err (Worn told)) old new before after = WearsFlush old new × (told ≡ refused) × (after ≡ before)
