-- How a disk's clock goes with its images.
use Rattle.std.specs.Prelude.{ℕ, ◌≤◌}
use Rattle.vol_disk.specs.Disk.{Disk, Files}
use Rattle.vol_disk.specs.Images.{IsImage}

-- What a crash now may leave counts since each moment up to now, and since now nothing else does. What may be
-- left since a later moment may be left since an earlier one.
pub record IsClocked (disk : Disk) : Type 0 where
  pub counts_now : (t : ℕ) (image : Files) → t ≤ disk.moment → IsImage disk image → disk.may_leave t image
  pub only_now : (image : Files) → disk.may_leave disk.moment image → IsImage disk image
  pub earlier : (t u : ℕ) (image : Files) → t ≤ u → disk.may_leave u image → disk.may_leave t image
