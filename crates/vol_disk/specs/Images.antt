-- The images of a disk: the files that a crash now may leave.
use Rattle.std.specs.Prelude.{◌≡◌, ℕ, ◌<◌, List, All}
use Rattle.vol_disk.specs.Disk.{Disk, Files}

-- these numbers are bytes
abbrev pub AreBytes : List ℕ → Type 0
AreBytes bytes = All (λ byte. byte < 256) bytes

-- a crash now may leave these files
pub record IsImage (disk : Disk) (image : Files) : Type 0 where
  pub bytes : (file : ℕ) → AreBytes (image file)
  pub left : (file : ℕ) → disk.leaves file (image file)

-- A crash now may leave each file as it reads. So a disk is one of its own images, where reads give bytes.
abbrev pub IsHonest : Disk → Type 0
IsHonest disk = (file : ℕ) → disk.leaves file (disk.seen file)

-- a crash now leaves of the file what a read gives
abbrev pub IsDurable : Disk → ℕ → Type 0
IsDurable disk file = (bytes : List ℕ) → disk.leaves file bytes → bytes ≡ disk.seen file

-- a crash now leaves what reads give
abbrev pub IsAllDurable : Disk → Type 0
IsAllDurable disk = (file : ℕ) → IsDurable disk file
