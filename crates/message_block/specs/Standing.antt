-- What a block file holds for good. Own.
use Rattle.std.specs.Prelude.{ℕ}
use Rattle.std.specs.Io.{StartsWith}
use Rattle.js_base.specs.Bytes.{Bytes}
use Rattle.vol_disk.specs.Disk.{Disk}

-- The file begins with these bytes, as it reads and in whatever a crash now leaves of it. Nothing is said of what is behind them.
pub record Stands (disk : Disk) (file : ℕ) (front : Bytes) : Type 0 where
  pub read : StartsWith (disk.seen file) front
  pub left : (image : Bytes) → disk.leaves file image → StartsWith image front
