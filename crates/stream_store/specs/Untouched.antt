-- A volume on which no batch is open, and that never had a stream: it has no more than the first start of a place may leave if it is cut short. By a rule of
-- this server's own; a volume with more had a stream, whose log is gone.
use Rattle.std.specs.Prelude.{◌≡◌, ◌<◌, ◌≤◌, ◌==◌, ◌&&◌, nat_lt, ℕ, List, None, [], ◌∷◌, ◌++◌, length, if◌then◌else◌}
use Rattle.vol_disk.specs.Disk.{Disk, Files}
use Rattle.gate_log.specs.Head.{head}
use Rattle.gate_log.specs.Staging.{behind_gate}
use Rattle.op_records.specs.Spelling.{spelled_vacant}
use Rattle.block_table.specs.Tables.{IsFile}
use Rattle.stream_store.specs.Logs.{LogIn, HasLogs}

-- no log has an open batch
pub record IsNoneOpen (image : Files) : Type 0 where
  pub zero : LogIn
  pub one : LogIn
  pub logs : HasLogs image zero one
  pub none_in_zero : zero.generation ≡ None
  pub none_in_one : one.generation ≡ None

-- ---- what a first start leaves

-- how long its log is before the first gate is opened, behind which stands the batch of a vacant place
unfoldable pub begun_length : ℕ
begun_length = length (head 1 ++ 0 ∷ behind_gate (spelled_vacant 0))

-- How many bytes of a file it leaves at most, if it is cut short. It makes a log in file 0, and touches no other file.
abbrev pub allowed : ℕ → ℕ
allowed file = if file == 0 then begun_length else 0

abbrev pub IsWithin : Files → ℕ → Type 0
IsWithin image file = length (image file) ≤ allowed file

-- no file that could be a log or a block has more
abbrev pub IsUntouched : Files → Type 0
IsUntouched image = (file : ℕ) → file ≤ 65535 → IsWithin image file

-- a crash now leaves no bytes of any block
abbrev pub AreBlocksGone : Disk → Type 0
AreBlocksGone disk = (file : ℕ) → IsFile file → (bytes : List ℕ) → disk.leaves file bytes → bytes ≡ []

-- ---- a stream is missing

-- where a file of so many bytes is told that has more: a log at its first gate, if it has one, and else the file at its beginning
abbrev pub told_at : ℕ → ℕ → ℕ
told_at file count = if nat_lt file 2 && nat_lt 20 count then 20 else 0

-- the file has more, and that is told there
pub record HasMore (image : Files) (file at : ℕ) : Type 0 where
  pub more : allowed file < length (image file)
  pub at_is : at ≡ told_at file (length (image file))

-- so it is of the first file that has more
pub record IsTouchedAt (image : Files) (file at : ℕ) : Type 0 where
  pub is_file : file ≤ 65535
  pub here : HasMore image file at
  pub before : (other : ℕ) → other < file → IsWithin image other

pub record IsMissing (image : Files) (file at : ℕ) : Type 0 where
  pub none : IsNoneOpen image
  pub touched : IsTouchedAt image file at
