-- A volume of which nothing is told but its counts. What stands for its disk is an empty one, of which no clause speaks.
use Rattle.std.specs.Prelude.{ℕ, []}
use Rattle.vol_disk.specs.Clock.{IsClocked}
use Rattle.vol_disk.specs.Disk.{Disk}
use Rattle.vol_disk.specs.Laws.{clocked}
use Rattle.vol_disk.specs.MemDisk.{disk_after}

abbrev pub untold : Disk
untold = disk_after [] []

pub untold_clocked : IsClocked untold
untold_clocked = clocked [] []

pub record Counts : Type 0 where
  -- how often it failed
  pub faults : ℕ
  -- how often it had no room
  pub refusals : ℕ
