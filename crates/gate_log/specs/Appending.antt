-- What an append leaves.
use Rattle.std.specs.Prelude.{◌≢◌, ◌⊎◌, ℕ, List, [], ◌∷◌, ◌++◌, IfSome}
use Rattle.vol_disk.specs.Disk.{Disk}
use Rattle.vol_disk.specs.Does.{Rests}
use Rattle.vol_disk.specs.Moments.{LeavesOnly, Elsewhere}
use Rattle.js_base.specs.Bytes.{Bytes}
use Rattle.gate_log.specs.LogFile.{IsLog}
use Rattle.gate_log.specs.LogState.{LogState}
use Rattle.gate_log.specs.Settled.{IsSettled}

-- the open batches of the log are these, or these and the new one
abbrev pub IsWithOrWithout : ℕ → List Bytes → Bytes → Bytes → Type 0
IsWithOrWithout generation batches records bytes =
    IsLog generation batches bytes ⊎ IsLog generation (batches ++ records ∷ []) bytes

-- at any moment the log has the batches from before, with the new one or without, and never a part of it
pub record Appends (log : LogState) (batches : List Bytes) (records : Bytes) (old new : Disk) : Type 0 where
  pub elsewhere : (other : ℕ) → other ≢ log.file → Rests other old new
  pub any_moment : LeavesOnly old new (λ image.
      IfSome log.head (λ generation. IsWithOrWithout generation batches records (image log.file)) × Elsewhere log.file old image)

-- so it is, whatever batches the log has
abbrev pub AppendsTo : LogState → Bytes → Disk → Disk → Type 0
AppendsTo log records old new = (batches : List Bytes) → IsSettled log batches old → Appends log batches records old new

-- the log has one open batch more
abbrev pub IsAppended : LogState → LogState → Bytes → Disk → Disk → Type 0
IsAppended log after records old new =
    (batches : List Bytes) → IsSettled log batches old → IsSettled after (batches ++ records ∷ []) new
