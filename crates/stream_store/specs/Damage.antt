-- Where an image of a volume is damaged, by a format of this server's own: the first fault of the files 0 and 1 as logs; or else the first fault of the
-- records of the current one; or else that of the blocks that these give; or else, where a stream cannot be restored to all that is read, the last record. Where
-- no log has an open batch, it is the first file with more than a first start may leave.
use Rattle.std.specs.Prelude.{◌≡◌, ◌⊎◌, ℕ, List}
use Rattle.vol_disk.specs.Disk.{Files}
use Rattle.js_base.specs.Bytes.{Bytes}
use Rattle.effects.specs.declared.durable.Durable.{Durable}
use Rattle.durable_checks.specs.Storable.{IsOpenable}
use Rattle.gate_log.specs.Faults.{IsDamagedAt, IsOfUnknownVersion}
use Rattle.block_table.specs.Blocks.{Blocks}
use Rattle.block_reading.specs.Damage.{AreDamaged}
use Rattle.block_reading.specs.Standing.{AreStoredIn}
use Rattle.log_records.specs.Batches.{Gives}
use Rattle.log_records.specs.Damage.{HasBadBatch}
use Rattle.log_records.specs.Ends.{IsLastIn}
use Rattle.log_records.specs.Logged.{Logged}
use Rattle.log_records.specs.Unread.{stored_messages}
use Rattle.stream_store.specs.Holding.{last_of, logged}
use Rattle.stream_store.specs.Logs.{LogIn, HasLog, HasLogs, current, current_file}
use Rattle.stream_store.specs.Untouched.{IsMissing}

-- ---- logs

abbrev pub IsSomeLog : Bytes → Type 0
IsSomeLog bytes = (log : LogIn) × HasLog bytes log

-- the first log has a fault, or else the second one
pub record IsBadLog (image : Files) (file : ℕ) (HasFault : Bytes → Type 0) : Type 0 where
  pub which : ((file ≡ 0) × HasFault (image 0)) ⊎ ((file ≡ 1) × (IsSomeLog (image 0) × HasFault (image 1)))

-- ---- what they tell

-- the batches give this, and a block of it is not whole, or a message of it is lost
pub record HasBadBlocks (image : Files) (batches : List Bytes) (file at : ℕ) : Type 0 where
  pub given : Logged
  pub gives : Gives batches given
  pub damaged : AreDamaged image given.blocks (last_of given.durable) (stored_messages given.durable) file at

-- the batches and the blocks give this, to which no stream can be restored, and the last record stands there
pub record IsUnopenable (image : Files) (batches : List Bytes) (at : ℕ) : Type 0 where
  pub d : Durable
  pub b : Blocks
  pub last : IsLastIn batches (logged d b) at
  pub stored : AreStoredIn image b (last_of d) (stored_messages d)
  pub bad : ¬ IsOpenable d

-- a fault of the log in this file is told in it, and one of the blocks in theirs
abbrev pub IsBadLogged : Files → ℕ → List Bytes → ℕ → ℕ → Type 0
IsBadLogged image log batches file at =
    ((file ≡ log) × (HasBadBatch batches at ⊎ IsUnopenable image batches at)) ⊎ HasBadBlocks image batches file at

-- both are logs, and what the current one tells is wrong
pub record IsBadVolume (image : Files) (file at : ℕ) : Type 0 where
  pub zero : LogIn
  pub one : LogIn
  pub logs : HasLogs image zero one
  pub bad : IsBadLogged image (current_file zero one) (current zero one).batches file at

abbrev pub IsDamaged : Files → ℕ → ℕ → Type 0
IsDamaged image file at = IsBadLog image file (λ bytes. IsDamagedAt bytes at) ⊎ (IsBadVolume image file at ⊎ IsMissing image file at)

abbrev pub IsOfAnotherVersion : Files → ℕ → Type 0
IsOfAnotherVersion image n = (file : ℕ) × IsBadLog image file (λ bytes. IsOfUnknownVersion bytes n)
