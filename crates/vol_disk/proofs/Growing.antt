-- How a file is made longer call by call, and what that leaves.
use Rattle.std.proofs.Common.{◌≡◌, ◌≢◌, ◌≤◌, ◌+◌, ℕ, max, List, [], ◌++◌, length, take, drop, replicate, refl, sym, ◌∙◌, ap, subst, arith}
use Rattle.std.proofs.lemmas.List.{take_all, take-take, take-append-drop, append_assoc, append-nil, length-append, length-replicate}
use Rattle.vol_disk.specs.Disk.{Disk}
use Rattle.vol_disk.specs.Images.{IsDurable}
use Rattle.vol_disk.specs.Steps.{Torn, Kept}
use Rattle.vol_disk.specs.Does.{Rests, Does, Follows}
use Rattle.vol_disk.specs.Clock.{IsClocked}
use Rattle.vol_disk.specs.Moments.{Elsewhere}
use Rattle.vol_disk.specs.Growing.{IsGrown, Extends, ExtendsAt, IsExtended, IsExtendedImage}
use Rattle.vol_disk.specs.declared.room.Room.{Room}
use Rattle.vol_disk.specs.declared.room.Room.TheVariants.{Made}
use Rattle.vol_disk.proofs.Moments.{started, goes_on, rests_on}

pub extends_same : (from end : ℕ) (bytes : List ℕ) → Extends from end bytes bytes
extends_same from end bytes = record { front = refl; no_shorter = omega arith; no_longer = omega arith }

-- a write behind the offset
extends_torn : (from end at n : ℕ) (old mid new : List ℕ) → from ≤ at → at + n ≤ end → Extends from end old mid → Torn at n mid new → Extends from end old new
extends_torn from end at n old mid new low high so_far torn = record {
  front = sym (take-take from at new low) ∙ ap (take from) torn.before ∙ take-take from at mid low ∙ so_far.front;
  no_shorter = omega (arith, so_far.no_shorter, torn.no_shorter);
  no_longer = omega (arith, so_far.no_longer, torn.no_longer);
}

extends_kept : (from end : ℕ) (old mid new : List ℕ) → Extends from end old mid → Kept mid new → Extends from end old new
extends_kept from end old mid new so_far kept = subst (Extends from end old) (sym kept.same) so_far

module _ (file end : ℕ) (old : Disk) where
  abbrev from : ℕ
  from = length (old.seen file)

  -- before the first call
  pub extends_none : IsClocked old → ExtendsAt file end old old
  extends_none clocked = record {
    leaves = λ bytes left. (bytes, left, extends_same from end bytes);
    elsewhere = λ other ne. record { seen = refl; leaves = λ bytes left. left };
    any_moment = started old (λ image. IsExtendedImage file end old (image file) × Elsewhere file old image) clocked (λ image now. ((image file, now.left file, extends_same from end (image file)), λ other ne. now.left other));
  }

  -- one call more, by which the file still extends what it was
  extends_more : (mid new : Disk) (step : List ℕ → List ℕ → Type 0) → ((before bytes after : List ℕ) → Extends from end before bytes → step bytes after → Extends from end before after) →
      ExtendsAt file end old mid → Does file step mid new → ExtendsAt file end old new
  extends_more mid new step keeps so_far does = record {
    leaves = here;
    elsewhere = there;
    any_moment = goes_on old mid new (λ image. IsExtendedImage file end old (image file) × Elsewhere file old image) so_far.any_moment does.time (λ image now. (here (image file) (now.left file), λ other ne. (there other ne).leaves (image other) (now.left other)));
  }
    where
      here : Follows (Extends from end) (old.leaves file) (new.leaves file)
      here bytes left =
          let last = does.leaves bytes left in
          let first = so_far.leaves last.0 last.1 in
          (first.0, first.1, keeps first.0 last.0 bytes first.2 last.2)

      there : (other : ℕ) → other ≢ file → Rests other old new
      there other ne = rests_on other old mid new (so_far.elsewhere other ne) (does.elsewhere other ne)

  -- zeros behind the end, and a sync
  pub extends_grown : (mid new : Disk) (at n : ℕ) → from ≤ at → at + n ≤ end → ExtendsAt file end old mid → Does file (Torn at n) mid new → ExtendsAt file end old new
  extends_grown mid new at n low high = extends_more mid new (Torn at n) (λ before bytes after so_far torn. extends_torn from end at n before bytes after low high so_far torn)

  pub extends_synced : (mid new : Disk) → ExtendsAt file end old mid → Does file Kept mid new → ExtendsAt file end old new
  extends_synced mid new = extends_more mid new Kept (λ before bytes after so_far kept. extends_kept from end before bytes after so_far kept)

-- ---- what is read

-- room that was made
pub made_is : (room : Room) (count : ℕ) (old new : List ℕ) → room ≡ Made → IsGrown room count old new → new ≡ old ++ replicate count 0
made_is room count old new is grown = subst (λ (r : Room). IsGrown r count old new) is grown

pub made_length : (room : Room) (count : ℕ) (old new : List ℕ) → room ≡ Made → IsGrown room count old new → length new ≡ length old + count
made_length room count old new is grown = omega (arith, ap length (made_is room count old new is grown), length-append old (replicate count 0), length-replicate {A = ℕ} count 0)

pub extended_same : (bytes : List ℕ) → IsExtended bytes bytes
extended_same bytes = ([], sym (append-nil bytes))

pub extended_more : (old mid more new : List ℕ) → IsExtended old mid → new ≡ mid ++ more → IsExtended old new
extended_more old mid more new so_far is = (so_far.0 ++ more, is ∙ ap (λ (front : List ℕ). front ++ more) so_far.1 ∙ append_assoc old so_far.0 more)

pub extended_length : (old new : List ℕ) → IsExtended old new → length old ≤ length new
extended_length old new extended = omega (arith, ap length extended.1, length-append old extended.0)

-- ---- a durable file

-- a crash leaves of it what a read gave, and any bytes behind
pub extends_durable : (file end : ℕ) (old : Disk) (bytes : List ℕ) → IsDurable old file → IsExtendedImage file end old bytes → IsExtended (old.seen file) bytes
extends_durable file end old bytes durable left =
    let was : left.0 ≡ old.seen file = durable left.0 left.1 in
    let front : take (length (old.seen file)) bytes ≡ old.seen file = left.2.front ∙ ap (take (length (old.seen file))) was ∙ take_all (length (old.seen file)) (old.seen file) (omega arith) in
    (drop (length (old.seen file)) bytes, sym (take-append-drop (length (old.seen file)) bytes) ∙ ap (λ (l : List ℕ). l ++ drop (length (old.seen file)) bytes) front)

-- and no more bytes than up to the end, or than it had
pub extends_length : (file end : ℕ) (old : Disk) (bytes : List ℕ) → IsDurable old file → IsExtendedImage file end old bytes → length bytes ≤ max (length (old.seen file)) end
extends_length file end old bytes durable left = subst (λ (was : List ℕ). length bytes ≤ max (length was) end) (durable left.0 left.1) left.2.no_longer
