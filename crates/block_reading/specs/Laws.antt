-- That the message blocks of a volume are read in one way.
use Rattle.std.specs.Prelude.{◌≡◌, ℕ, List}
use Rattle.std.specs.List.{AllZip}
use Rattle.js_model.specs.declared.stream.Message.{Message}
use Rattle.vol_disk.specs.Disk.{Files}
use Rattle.block_table.specs.Blocks.{Blocks}
use Rattle.block_reading.specs.Standing.{AreStoredIn}
use Rattle.block_reading.specs.Damage.{AreDamaged, IsToldBy}

pub record LawStored : Type 0 where
  pub one : (image : Files) (b : Blocks) (last : ℕ) (ms ns : List Message) → AreStoredIn image b last ms → AreStoredIn image b last ns → ms ≡ ns
  pub whole :
      (image : Files) (b : Blocks) (last : ℕ) (told ms : List Message) (file at : ℕ) → AreStoredIn image b last ms → AllZip IsToldBy told ms
      → ¬ AreDamaged image b last told file at
  pub one_file :
      (image : Files) (b : Blocks) (last : ℕ) (told : List Message) (file other at place : ℕ) → AreDamaged image b last told file at
      → AreDamaged image b last told other place → file ≡ other
  pub one_offset :
      (image : Files) (b : Blocks) (last : ℕ) (told : List Message) (file other at place : ℕ) → AreDamaged image b last told file at
      → AreDamaged image b last told other place → at ≡ place
