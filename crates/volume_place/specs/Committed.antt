-- What it comes to that records which wait are committed, in the log of a place or in the next one, by which this lasts.
use Rattle.std.specs.Prelude.{◌≡◌, ◌≤◌, ◌⊎◌, ℕ, List, length, unwrap_or, Result, IsErrOf, OnOk}
use Rattle.js_base.specs.Causes.{HasCause}
use Rattle.effects.specs.declared.durable.Durable.{Durable}
use Rattle.effects.specs.declared.effect.Effect.{Effect}
use Rattle.block_table.specs.Blocks.{blocks}
use Rattle.vol_disk.specs.Disk.{Disk}
use Rattle.stream_store.specs.Committing.{CommitsOrNot, IsCommitted}
use Rattle.stream_store.specs.Placing.{used_behind}
use Rattle.stream_store.specs.Rooms.{AreReserved}
use Rattle.stream_store.specs.StoreState.{StoreState}
use Rattle.stream_store.specs.declared.fault.CommitFault.{CommitFault}
use Rattle.stream_store.specs.declared.fault.CommitFault.TheVariants.{Fault, NoMemory, Worn}
use Rattle.volume_place.specs.Leaving.{GoesTo, IsLastLog}

-- the call leaves the volume and the store as they were
pub record LeavesBoth {V : Type 0} (store after : StoreState) (old new : V) : Type 0 where
  pub store_is : after ≡ store
  pub vol_is : new ≡ old

-- The records of a place that comes to so much at most are on the volume, or the volume failed, or all is as it was. It is worn out just if its log is left and is
-- the last one, unless memory ran out. A generation never falls, and the logs do for the place as before.
pub record Commits {V : Type 0} (told : Type 0) (disk : V → Disk) (faults refusals : V → ℕ) (effects : List Effect) (bound : ℕ) (next : Durable) (result : Result (Unit {0}) CommitFault)
    (store after : StoreState) (old new : V) : Type 0 where
  pub committed : told → OnOk result (IsCommitted store after effects (disk old) (disk new))
  pub goes : OnOk result (GoesTo store effects bound next after.log)
  pub fewer : OnOk result (length (blocks after.blocks) ≤ used_behind store.blocks effects)
  pub reserved : OnOk result (AreReserved after.rooms bound)
  pub any_moment : told → CommitsOrNot store effects (disk old) (disk new)
  pub generations : unwrap_or store.log.head 0 ≤ unwrap_or after.log.head 0
  pub worn : IsErrOf result Worn → IsLastLog store effects bound
  pub last : IsLastLog store effects bound → IsErrOf result Worn ⊎ IsErrOf result NoMemory
  pub worn_leaves : IsErrOf result Worn → LeavesBoth store after old new
  pub no_memory : IsErrOf result NoMemory → LeavesBoth store after old new
  pub cause : HasCause (faults old) (faults new) (IsErrOf result Fault)
  pub refusals_later : refusals old ≤ refusals new
  pub later : (disk old).moment ≤ (disk new).moment
