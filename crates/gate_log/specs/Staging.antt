-- A batch that stands behind its closed gate.
use Rattle.std.specs.Prelude.{◌≡◌, ◌<◌, ◌-◌, ◌^◌, ℕ, List, [], ◌∷◌, ◌++◌, length, take, drop, IfSome}
use Rattle.vol_disk.specs.Disk.{Disk}
use Rattle.vol_disk.specs.Images.{IsDurable}
use Rattle.js_base.specs.Bytes.{Bytes}
use Rattle.checksum.specs.Checked.{checked}
use Rattle.gate_log.specs.LogFile.{Spells}
use Rattle.gate_log.specs.LogState.{LogState}
use Rattle.gate_log.specs.Settled.{IsSettled}

-- the records behind their length and their checksum, and a closed gate for the next batch
abbrev pub behind_gate : Bytes → Bytes
behind_gate records = checked records ++ 0 ∷ []

-- the records of what stands behind a gate
abbrev pub records_in : Bytes → Bytes
records_in staged = take (length staged - 9) (drop 8 staged)

-- it is what stands behind a gate with them, which are not too long for their length to be told
pub record IsStagedBatch (staged : Bytes) : Type 0 where
  pub staged_is : staged ≡ behind_gate (records_in staged)
  pub short : length (records_in staged) < 2 ^ 32

-- The log is as it was, and behind the closed gate at its end stands the batch, on the disk.
pub record IsStaged (log : LogState) (batches : List Bytes) (records : Bytes) (disk : Disk) : Type 0 where
  pub tail : Bytes
  pub file : IfSome log.head (λ generation. (gate : ℕ) × Spells (disk.seen log.file) generation batches gate (behind_gate records ++ tail))
  pub durable : IsDurable disk log.file

-- so it is, whatever batches the log has
abbrev pub StagesTo : LogState → Bytes → Disk → Disk → Type 0
StagesTo log records old new = (batches : List Bytes) → IsSettled log batches old → IsStaged log batches records new
