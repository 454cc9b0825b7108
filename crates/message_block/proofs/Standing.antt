-- What stands in a block file, and what goes on standing.
use Rattle.std.proofs.Common.{◌≡◌, ℕ, ◌+◌, ◌≤◌, ◌++◌, length, take, drop, refl, sym, ◌∙◌, ap, subst, arith, length-drop}
use Rattle.std.specs.Io.{StartsWith}
use Rattle.std.proofs.lemmas.List.{take-take, take-append-le, drop-append-le}
use Rattle.std.proofs.Transfers.{starts_with_of_append, starts_with_trans}
use Rattle.std.proofs.KnownBytes.{starts_with_rest}
use Rattle.js_base.specs.Bytes.{Bytes}
use Rattle.vol_disk.specs.Disk.{Disk}
use Rattle.vol_disk.specs.Does.{Rests}
use Rattle.vol_disk.specs.Moments.{Quiet}
use Rattle.message_block.specs.Standing.{Stands}

-- what is the same up to an offset begins with the same bytes, as far as these go
pub starts_as : (at : ℕ) (old new front : Bytes) → length front ≤ at → take at new ≡ take at old → StartsWith old front → StartsWith new front
starts_as at old new front le same starts = sym (take-take (length front) at new le) ∙ ap (take (length front)) same ∙ take-take (length front) at old le ∙ starts

-- fewer bytes stand too
pub stands_less : (disk : Disk) (file : ℕ) (front more : Bytes) → Stands disk file (front ++ more) → Stands disk file front
stands_less disk file front more stands =
    let first : StartsWith (front ++ more) front = starts_with_of_append (front ++ more) front more refl in
    record {
      read = starts_with_trans (disk.seen file) (front ++ more) front stands.read first;
      left = λ image left. starts_with_trans image (front ++ more) front (stands.left image left) first;
    }

-- in a file that rests
pub stands_at_rest : (file : ℕ) (old new : Disk) (front : Bytes) → Rests file old new → Stands old file front → Stands new file front
stands_at_rest file old new front rests stands = record {
  read = subst (λ (l : Bytes). StartsWith l front) (sym rests.seen) stands.read;
  left = λ image left. stands.left image (rests.leaves image left);
}

-- and where nothing is written
pub stands_quiet : (file : ℕ) (old new : Disk) (front : Bytes) → Quiet old new → Stands old file front → Stands new file front
stands_quiet file old new front quiet stands = stands_at_rest file old new front (record { seen = quiet.seen file; leaves = quiet.leaves file }) stands

-- bytes that were written behind those that stood
pub stands_behind : (old new : Disk) (file at : ℕ) (front bytes : Bytes) → Stands old file front → length front ≡ at →
    Stands new file (take at (old.seen file) ++ bytes) → Stands new file (front ++ bytes)
stands_behind old new file at front bytes stands is now =
    subst (λ (l : Bytes). Stands new file (l ++ bytes)) (ap (λ (n : ℕ). take n (old.seen file)) (sym is) ∙ stands.read) now

-- what a spot among the bytes at the front holds
pub spot_among : (bytes front : Bytes) (at len : ℕ) → StartsWith bytes front → at + len ≤ length front → take len (drop at bytes) ≡ take len (drop at front)
spot_among bytes front at len starts within =
    let rest = drop (length front) bytes in
    ap (λ (l : Bytes). take len (drop at l)) (starts_with_rest bytes front starts)
    ∙ ap (take len) (drop-append-le at front rest (omega (arith, within)))
    ∙ take-append-le len (drop at front) rest (omega (arith, within, length-drop at front))
