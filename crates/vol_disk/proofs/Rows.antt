-- The disk model on small files.
use Rattle.std.proofs.Common.{◌≡◌, zero, suc, ℕ, ◌<◌, Bool, true, false, [], ◌∷◌, refl, arith}
use Rattle.std.specs.Prelude.{slice_index}
use Rattle.vol_disk.specs.FileState.{FileState, at_rest}
use Rattle.vol_disk.specs.Left.{is_written, IsLeft}
use Rattle.vol_disk.specs.Replay.{state_of}
use Rattle.vol_disk.specs.declared.call.Call.{Call}
use Rattle.vol_disk.specs.declared.call.Deed.{Deed}
use Rattle.vol_disk.specs.declared.call.Deed.TheVariants.{Write, Cut, Sync}
use Rattle.vol_disk.specs.declared.span.Span.{Span}

abbrev call : Deed → Bool → Call
call deed is_done = record { file = 0; deed = deed; is_done = is_done }

abbrev span : ℕ → ℕ → Span
span from to = record { from = from; to = to }

-- a file of one byte, to which two more are written
abbrev grown : FileState
grown = record { bytes = 1 ∷ 2 ∷ 3 ∷ []; synced = 1 ∷ []; least = 1; greatest = 3; written = span 1 3 ∷ [] }

row_write : state_of ((0, 1 ∷ []) ∷ []) (call (Write 1 (2 ∷ 3 ∷ [])) true ∷ []) 0 ≡ grown
row_write = refl

-- one that fails reads as before, and may be there
row_failed : state_of ((0, 1 ∷ []) ∷ []) (call (Write 1 (2 ∷ 3 ∷ [])) false ∷ []) 0 ≡ record grown { bytes = 1 ∷ [] }
row_failed = refl

-- a write and a cut keep the least and the greatest length
row_cut : state_of ((0, 1 ∷ []) ∷ []) (call (Write 1 (2 ∷ 3 ∷ [])) true ∷ call (Cut 0) true ∷ []) 0 ≡ record grown { bytes = []; least = 0 }
row_cut = refl

-- a sync ends all doubt
row_sync : state_of ((0, 1 ∷ []) ∷ []) (call (Write 1 (2 ∷ 3 ∷ [])) true ∷ call Sync true ∷ []) 0 ≡ at_rest (1 ∷ 2 ∷ 3 ∷ [])
row_sync = refl

-- another file rests
row_other : state_of ((0, 1 ∷ []) ∷ (5, 7 ∷ []) ∷ []) (call (Write 1 (2 ∷ 3 ∷ [])) true ∷ []) 5 ≡ at_rest (7 ∷ [])
row_other = refl

-- a crash may leave no byte of the write, or one of them and another in its place
row_none : IsLeft grown (1 ∷ [])
row_none = record { no_shorter = omega arith; no_longer = omega arith; stays = stays }
  where
    stays : (k : ℕ) → k < 1 → is_written (span 1 3 ∷ []) k ≡ false → slice_index (1 ∷ []) k ≡ slice_index (1 ∷ 2 ∷ 3 ∷ []) k
    stays zero low none = refl
    stays (suc k) low none = absurd (omega arith)

row_torn : IsLeft grown (1 ∷ 9 ∷ [])
row_torn = record { no_shorter = omega arith; no_longer = omega arith; stays = stays }
  where
    stays : (k : ℕ) → k < 1 → is_written (span 1 3 ∷ []) k ≡ false → slice_index (1 ∷ 9 ∷ []) k ≡ slice_index (1 ∷ 2 ∷ 3 ∷ []) k
    stays zero low none = refl
    stays (suc k) low none = absurd (omega arith)

-- not with another first byte, not shorter and not longer
row_first : IsLeft grown (5 ∷ 2 ∷ 3 ∷ []) → ⊥
row_first left = other (left.stays 0 (omega arith) refl)
  where
    other : ◌≡◌ {A = ℕ} 5 1 → ⊥
    other same = omega arith

row_shorter : IsLeft grown [] → ⊥
row_shorter left = let le = left.no_shorter in omega arith

row_longer : IsLeft grown (1 ∷ 2 ∷ 3 ∷ 4 ∷ []) → ⊥
row_longer left = let le = left.no_longer in omega arith
