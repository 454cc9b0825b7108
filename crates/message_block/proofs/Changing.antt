-- How calls on a block file leave what stands in it.
use Rattle.std.proofs.Common.{◌≡◌, ℕ, ◌+◌, ◌≤◌, [], ◌++◌, length, take, drop, refl, ◌∙◌, ap, arith, length-append, length-drop, length-take-le, take_at, append_assoc}
use Rattle.vol_disk.specs.Disk.{Disk}
use Rattle.vol_disk.specs.Steps.{written, Torn, CutTo, Kept}
use Rattle.vol_disk.specs.Does.{Does}
use Rattle.vol_disk.specs.Clock.{IsClocked}
use Rattle.vol_disk.proofs.Moments as moments
use Rattle.js_base.specs.Bytes.{Bytes}
use Rattle.message_block.specs.Standing.{Stands}
use Rattle.message_block.specs.Changing.{ChangesOnly, ChangesFrom}
use Rattle.message_block.proofs.Standing.{starts_as}

-- bytes that end where others end leave these as long
pub written_long : (at : ℕ) (bytes old : Bytes) → at + length bytes ≤ length old → length (written at bytes old) ≡ length old
written_long at bytes old within =
    omega (arith, within, length-append (take at old ++ bytes) (drop (at + length bytes) old), length-append (take at old) bytes, length-take-le at old (omega (arith, within)), length-drop (at + length bytes) old)

module _ (file at : ℕ) where
  -- before the first call
  started : (disk : Disk) → IsClocked disk → ChangesFrom file at disk disk
  started disk clocked = record {
    elsewhere = λ other ne. record { seen = refl; leaves = λ bytes left. left };
    stands = λ front le stands. stands;
    any_moment = λ front le stands. moments.started disk _ clocked (λ image left. (stands.left (image file) (left.left file), λ other ne. left.left other));
  }

  -- one call more, which keeps what is in front of the offset
  goes_on : (step : Bytes → Bytes → Type 0) (old mid new : Disk) → ((before now : Bytes) → step before now → take at now ≡ take at before) →
      ChangesFrom file at old mid → Does file step mid new → take at (new.seen file) ≡ take at (mid.seen file) → ChangesFrom file at old new
  goes_on step old mid new keeps so_far does same = record {
    elsewhere = λ other ne. moments.rests_on other old mid new (so_far.elsewhere other ne) (does.elsewhere other ne);
    stands = λ front le stands. still front le (so_far.stands front le stands);
    any_moment = λ front le stands. moments.goes_on old mid new _ (so_far.any_moment front le stands) does.time (λ image left. (
      (still front le (so_far.stands front le stands)).left (image file) (left.left file),
      λ other ne. (so_far.elsewhere other ne).leaves (image other) ((does.elsewhere other ne).leaves (image other) (left.left other)),
    ));
  }
    where
      still : (front : Bytes) → length front ≤ at → Stands mid file front → Stands new file front
      still front le stands = record {
        read = starts_as at (mid.seen file) (new.seen file) front le same stands.read;
        left = λ image left.
            let from = does.leaves image left in
            starts_as at from.0 image front le (keeps from.0 image from.2) (stands.left from.0 from.1);
      }

  -- a sync
  pub synced : (old mid new : Disk) → ChangesFrom file at old mid → Does file Kept mid new → new.seen file ≡ mid.seen file → ChangesFrom file at old new
  synced old mid new so_far does same = goes_on Kept old mid new (λ before now kept. ap (take at) kept.same) so_far does (ap (take at) same)

  -- a write, which failed or was done
  pub tore : (n : ℕ) (old new : Disk) → IsClocked old → Does file (Torn at n) old new → Torn at n (old.seen file) (new.seen file) → ChangesFrom file at old new
  tore n old new clocked does torn = goes_on (Torn at n) old old new (λ before now step. step.before) (started old clocked) does torn.before

  pub wrote : (bytes : Bytes) (old new : Disk) → at ≤ length (old.seen file) → IsClocked old → Does file (Torn at (length bytes)) old new →
      new.seen file ≡ written at bytes (old.seen file) → ChangesFrom file at old new
  wrote bytes old new within clocked does is =
      goes_on (Torn at (length bytes)) old old new (λ before now step. step.before) (started old clocked) does
      (ap (take at) (is ∙ append_assoc (take at (old.seen file)) bytes (drop (at + length bytes) (old.seen file))) ∙ take_at (take at (old.seen file)) (bytes ++ drop (at + length bytes) (old.seen file)) at (length-take-le at (old.seen file) within))

-- nothing stands in front of the first byte
alone : (file : ℕ) (old new : Disk) → ChangesFrom file 0 old new → ChangesOnly file old new
alone file old new changes = record {
  elsewhere = changes.elsewhere;
  any_moment = moments.widened old new _ _ (changes.any_moment [] (omega arith) (record { read = refl; left = λ image left. refl })) (λ image both. both.1);
}

module _ (file : ℕ) (old mid : Disk) (clocked : IsClocked old) (does : Does file (CutTo 0) old mid) where
  emptied : ChangesFrom file 0 old mid
  emptied = goes_on file 0 (CutTo 0) old old mid (λ before now step. step.front) (started file 0 old clocked) does refl

  -- a cut to nothing, and a sync behind it
  pub cut : ChangesOnly file old mid
  cut = alone file old mid emptied

  pub cut_synced : (new : Disk) → Does file Kept mid new → new.seen file ≡ mid.seen file → ChangesOnly file old new
  cut_synced new syncs same = alone file old new (synced file 0 old mid new emptied syncs same)
