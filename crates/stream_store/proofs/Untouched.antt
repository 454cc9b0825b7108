-- The look for a stream that is missing, one file after the other.
use Rattle.std.proofs.Common.{◌≡◌, ◌≤◌, ◌<◌, ◌⊎◌, inl, inr, ℕ, ◌+◌, min, List, length, sym, ap, subst, ◌∙◌, arith}
use Rattle.std.proofs.lemmas.Bool.{cases_eq}
use Rattle.vol_disk.specs.Clock.{IsClocked}
use Rattle.vol_disk.specs.Disk.{Disk, Files, IsLeftBelow}
use Rattle.vol_disk.specs.Images.{IsDurable, IsHonest}
use Rattle.vol_disk.specs.Moments.{Quiet}
use Rattle.vol_disk.proofs.Moments.{empty_behind, quiet, quiet_durable, quiet_then}
use Rattle.stream_store.specs.Finding.{IsFaultWhere}
use Rattle.stream_store.specs.Untouched.{AreBlocksGone, HasMore, IsTouchedAt, IsUntouched, IsWithin, allowed, told_at}
use Rattle.stream_store.specs.declared.fault.OpenFault.{OpenFault}
use Rattle.stream_store.specs.declared.fault.OpenFault.TheVariants.{Fault, Damaged, UnknownVersion, NoRoom, NoMemory as OutOfMemory}
use Rattle.stream_store.proofs.Vacant.{allows_none}

-- ---- one file

-- it has no more, or it has more, and that is told there
module _ (file : ℕ) (image : Files) (len most : ℕ) (size : len ≡ length (image file)) (most_is : most ≡ allowed file) where
  pub no_more : len ≤ most → IsWithin image file
  no_more few = subst (λ (n : ℕ). n ≤ allowed file) size (subst (λ (n : ℕ). len ≤ n) most_is few)

  pub has_more : (at : ℕ) → most < len → at ≡ told_at file len → HasMore image file at
  has_more at many here = record {
    more = subst (λ (n : ℕ). allowed file < n) size (subst (λ (n : ℕ). n < len) most_is many);
    at_is = here ∙ ap (told_at file) size;
  }

-- ---- one file behind another

-- the files below this one have no more than a first start may leave, and a crash leaves just that
pub record AreWithinBelow (upto : ℕ) (old now : Disk) : Type 0 where
  pub still : Quiet old now
  pub within : (file : ℕ) → file < upto → IsWithin old.seen file
  pub durable : (file : ℕ) → file < upto → IsDurable now file

pub within_first : (disk : Disk) → IsClocked disk → AreWithinBelow 0 disk disk
within_first disk clocked = record {
  still = quiet disk clocked;
  within = λ file low. absurd (omega (arith, low));
  durable = λ file low. absurd (omega (arith, low));
}

pub within_more : (file : ℕ) (old mid new : Disk) → AreWithinBelow file old mid → IsWithin mid.seen file → Quiet mid new → IsDurable new file → AreWithinBelow (file + 1) old new
within_more file old mid new so_far here still durable = record {
  still = quiet_then old mid new so_far.still still;
  within = λ other low. elim (cases_eq other file) [
    | inl same ↦ subst (λ (n : ℕ). length (old.seen n) ≤ allowed n) (sym same) (subst (λ (l : List ℕ). length l ≤ allowed file) (so_far.still.seen file) here)
    | inr ne ↦ so_far.within other (omega (arith, low, ne))
  ];
  durable = λ other low. elim (cases_eq other file) [
    | inl same ↦ subst (IsDurable new) (sym same) durable
    | inr ne ↦ quiet_durable mid new other still (so_far.durable other (omega (arith, low, ne)))
  ];
}

reached : (upto file : ℕ) → (file < upto) ⊎ (upto ≤ file)
reached upto file = grind arith

-- ---- behind the last file with bytes all are empty

module _ (end upto : ℕ) (old entry now : Disk) (honest : IsHonest entry) (still : Quiet old entry) (left : IsLeftBelow end entry) (all : min end 65536 ≤ upto) (is : AreWithinBelow upto entry now) where
  pub within_all : IsUntouched old.seen
  within_all file high = elim (reached upto file) [
    | inl low ↦ subst (λ (l : List ℕ). length l ≤ allowed file) (still.seen file) (is.within file low)
    | inr behind ↦ subst (λ (l : List ℕ). length l ≤ allowed file) (sym (empty_behind old entry end file honest still left (omega (arith, all, behind, high)))) (omega arith)
  ]

  pub gone_all : AreBlocksGone now
  gone_all file block bytes here = elim (reached upto file) [
    | inl low ↦ is.durable file low bytes here ∙ is.still.seen file ∙ allows_none file (entry.seen file) (λ first. let high = block.low in omega (arith, first, high)) (is.within file low)
    | inr behind ↦ left file (omega (arith, all, behind, block.high)) bytes (is.still.leaves file bytes here)
  ]

-- ---- faults

-- it is that of the first file with more
pub touched_fault : (file : ℕ) (old entry mid : Disk) (told : OpenFault) → file ≤ 65535 → Quiet old entry → AreWithinBelow file entry mid → IsFaultWhere (λ other at. (other ≡ file) × HasMore mid.seen file at) told
    → IsFaultWhere (IsTouchedAt old.seen) told
touched_fault file old entry mid Fault high still is h = tt
touched_fault file old entry mid (Damaged damaged at) high still is (same, here) =
    let seen : mid.seen file ≡ old.seen file = is.still.seen file ∙ still.seen file in
    let more : HasMore old.seen file at = record {
      more = subst (λ (l : List ℕ). allowed file < length l) seen here.more;
      at_is = here.at_is ∙ ap (λ (l : List ℕ). told_at file (length l)) seen;
    } in
    subst (λ (n : ℕ). IsTouchedAt old.seen n at) (sym same)
    (record {
      is_file = high;
      here = more;
      before = λ other lt. subst (λ (l : List ℕ). length l ≤ allowed other) (still.seen other) (is.within other lt);
    })
touched_fault file old entry mid (UnknownVersion n) high still is h = absurd h
touched_fault file old entry mid NoRoom high still is h = absurd h
touched_fault file old entry mid OutOfMemory high still is h = absurd h
