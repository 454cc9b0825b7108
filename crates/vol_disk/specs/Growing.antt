-- What a file is that got longer, so that there is room in it.
use Rattle.std.specs.Prelude.{◌≡◌, ◌≢◌, ◌≤◌, ℕ, max, List, ◌++◌, length, take, replicate, Result, Ok, Err}
use Rattle.vol_disk.specs.Disk.{Disk}
use Rattle.vol_disk.specs.Does.{Follows, Rests}
use Rattle.vol_disk.specs.Moments.{LeavesOnly, Elsewhere}
use Rattle.vol_disk.specs.declared.failed.Failed.{Failed}
use Rattle.vol_disk.specs.declared.room.Room.{Room}
use Rattle.vol_disk.specs.declared.room.Room.TheVariants.{Made, Refused}

-- the volume was asked for room, and had none
abbrev pub IsRefused : Result Room Failed → Type 0
IsRefused (Ok Made) = ⊥
IsRefused (Ok Refused) = Unit {0}
IsRefused (Err failed) = ⊥

-- ---- one call

-- the file reads with so many zeros more, or as before if there was no room for them
abbrev pub IsGrown : Room → ℕ → List ℕ → List ℕ → Type 0
IsGrown Made count old new = new ≡ old ++ replicate count 0
IsGrown Refused count old new = new ≡ old

-- ---- several calls

-- if room was made, the file reaches at least to there
abbrev pub HasRoom : ℕ → Room → List ℕ → Type 0
HasRoom end Made bytes = end ≤ length bytes
HasRoom end Refused bytes = Unit {0}

-- the bytes as before, with others behind
abbrev pub IsExtended : List ℕ → List ℕ → Type 0
IsExtended old new = (behind : List ℕ) × (new ≡ old ++ behind)

-- Up to an offset the bytes are as before, and there are no fewer of them. Behind it they may be any, at most up to an end.
pub record Extends (from end : ℕ) (old new : List ℕ) : Type 0 where
  pub front : take from new ≡ take from old
  pub no_shorter : length old ≤ length new
  pub no_longer : length new ≤ max (length old) end

-- these bytes extend what a crash might have left of the file
abbrev pub IsExtendedImage : ℕ → ℕ → Disk → List ℕ → Type 0
IsExtendedImage file end old bytes = (before : List ℕ) × old.leaves file before × Extends (length (old.seen file)) end before bytes

-- A file was made longer: at each moment a crash leaves of it what it might have left before, with any bytes behind what a read gave. No other file is touched.
pub record ExtendsAt (file end : ℕ) (old new : Disk) : Type 0 where
  pub leaves : Follows (Extends (length (old.seen file)) end) (old.leaves file) (new.leaves file)
  pub elsewhere : (other : ℕ) → other ≢ file → Rests other old new
  pub any_moment : LeavesOnly old new (λ image. IsExtendedImage file end old (image file) × Elsewhere file old image)
