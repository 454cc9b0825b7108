-- The files of a volume in memory, as contracts see them: what they held at first, and the calls since then.
use Rattle.std.specs.Prelude.{◌≡◌, ℕ, List, [], ◌∷◌, ◌++◌, unwrap_or}
use Rattle.std.specs.BTreeMap.{is_at}
use Rattle.std.specs.List.{AllZip}
use Rattle.std.specs.Map.{lookup}
use Rattle.std.specs.Ordering.{nat_cmp}
use Rattle.vol_disk.specs.Images.{AreBytes}
use Rattle.vol_disk.specs.FileState.{FileState, at_rest}
use Rattle.vol_disk.specs.Left.{IsLeft}
use Rattle.vol_disk.specs.Replay.{state_of}
use Rattle.vol_disk.specs.declared.call.Call.{Call}

pub record HeldState : Type 0 where
  pub start : List (ℕ × List ℕ)
  pub calls : List Call

-- a file among those held by number, of which one that is not held is empty
abbrev pub state_in : List (ℕ × FileState) → ℕ → FileState
state_in files file = unwrap_or (lookup (is_at (nat_cmp file)) files) (at_rest [])

-- each file is what the calls made of it
abbrev pub IsReplayed : List (ℕ × FileState) → List (ℕ × List ℕ) → List Call → Type 0
IsReplayed files start calls = (file : ℕ) → state_in files file ≡ state_of start calls file

-- a file as it is held
abbrev pub held_file : HeldState → ℕ → FileState
held_file held file = state_of held.start held.calls file

-- the files after one call more
abbrev pub with_one : HeldState → Call → HeldState
with_one held call = record held { calls = held.calls ++ call ∷ [] }

-- Bytes that a crash may leave of a file, as a number picks them: 0 what it was at the last sync, 1 what a read
-- gives, and any other number some of them.
pub record IsPicked (pick : ℕ) (state : FileState) (image : List ℕ) : Type 0 where
  pub bytes : AreBytes image
  pub left : IsLeft state image
  pub as_synced : pick ≡ 0 → image ≡ state.synced
  pub as_read : pick ≡ 1 → image ≡ state.bytes

-- such bytes for each of the files, in their order
abbrev pub ArePicked : ℕ → List (ℕ × FileState) → List (ℕ × List ℕ) → Type 0
ArePicked pick files images = AllZip (λ file image. (image.0 ≡ file.0) × IsPicked pick file.1 image.1) files images
