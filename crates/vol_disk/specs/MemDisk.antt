-- The disk of a volume in memory, as its record of calls tells it. Its clock counts the calls.
use Rattle.std.specs.Prelude.{ℕ, ◌≤◌, List, length, take}
use Rattle.vol_disk.specs.Disk.{Disk, Files}
use Rattle.vol_disk.specs.Images.{AreBytes}
use Rattle.vol_disk.specs.Left.{IsLeft}
use Rattle.vol_disk.specs.Replay.{state_of}
use Rattle.vol_disk.specs.declared.call.Call.{Call}

-- after these calls a crash may leave these files
pub record AreLeft (start : List (ℕ × List ℕ)) (calls : List Call) (image : Files) : Type 0 where
  pub bytes : (file : ℕ) → AreBytes (image file)
  pub left : (file : ℕ) → IsLeft (state_of start calls file) (image file)

-- after some front of the calls, of not fewer than t of them, a crash may leave these files
abbrev pub AreLeftSince : List (ℕ × List ℕ) → List Call → ℕ → Files → Type 0
AreLeftSince start calls t image = (k : ℕ) × (t ≤ k) × (k ≤ length calls) × AreLeft start (take k calls) image

abbrev pub disk_after : List (ℕ × List ℕ) → List Call → Disk
disk_after start calls = record {
  seen = λ file. (state_of start calls file).bytes;
  leaves = λ file bytes. IsLeft (state_of start calls file) bytes;
  moment = length calls;
  may_leave = λ t image. AreLeftSince start calls t image;
}
