-- How a run of calls goes on.
use Rattle.std.proofs.Common.{◌≡◌, ◌≤◌, inl, inr, ⊎_elim, ℕ, List, [], refl, sym, ◌∙◌, subst, arith}
use Rattle.std.proofs.lemmas.Bool.{cases_eq}
use Rattle.vol_disk.specs.Disk.{Disk, Files, IsLeftBelow}
use Rattle.vol_disk.specs.Images.{IsImage, IsHonest, IsDurable, AreBytes}
use Rattle.vol_disk.specs.Steps.{Torn, CutTo, Kept}
use Rattle.vol_disk.specs.Does.{Elapses, Rests, Does}
use Rattle.vol_disk.specs.Clock.{IsClocked}
use Rattle.vol_disk.specs.Moments.{LeavesOnly, Elsewhere, Quiet}
use Rattle.vol_disk.specs.Synced.{DoesSynced}

-- as it reads
pub read_is_image : (disk : Disk) → IsHonest disk → ((file : ℕ) → AreBytes (disk.seen file)) → IsImage disk disk.seen
read_is_image disk honest bytes = record { bytes = bytes; left = honest }

-- before the first call
pub started : (old : Disk) (P : Files → Type 0) → IsClocked old → ((image : Files) → IsImage old image → P image) → LeavesOnly old old P
started old P clocked here = record {
  later = omega arith;
  each = λ image left. here image (clocked.only_now image left);
  before = λ t image le left. inl left;
}

-- one call more
pub goes_on : (old mid new : Disk) (P : Files → Type 0) → LeavesOnly old mid P → Elapses mid new → ((image : Files) → IsImage new image → P image) → LeavesOnly old new P
goes_on old mid new P so_far time here = record {
  later = omega (arith, so_far.later, time.later);
  each = λ image left. ⊎_elim (so_far.each image) (here image) (time.adds old.moment image so_far.later left);
  before = λ t image le left. ⊎_elim (so_far.before t image le) (λ now. inr (here image now)) (time.adds t image (omega (arith, le, so_far.later)) left);
}

-- a run after a run
pub joined : (old mid new : Disk) (P Q : Files → Type 0) → LeavesOnly old mid P → LeavesOnly mid new Q → ((image : Files) → Q image → P image) → LeavesOnly old new P
joined old mid new P Q first second leads = record {
  later = omega (arith, first.later, second.later);
  each = λ image left. ⊎_elim (first.each image) (leads image) (second.before old.moment image first.later left);
  before = λ t image le left. ⊎_elim (first.before t image le) (λ now. inr (leads image now)) (second.before t image (omega (arith, le, first.later)) left);
}

pub widened : (old new : Disk) (P Q : Files → Type 0) → LeavesOnly old new Q → ((image : Files) → Q image → P image) → LeavesOnly old new P
widened old new P Q only leads = record {
  later = only.later;
  each = λ image left. leads image (only.each image left);
  before = λ t image le left. ⊎_elim (λ past. inl past) (λ now. inr (leads image now)) (only.before t image le left);
}

torn_same : (at n : ℕ) (bytes : List ℕ) → Torn at n bytes bytes
torn_same at n bytes = record { before = refl; after = refl; no_shorter = omega arith; no_longer = omega arith }

cut_same : (n : ℕ) (bytes : List ℕ) → CutTo n bytes bytes
cut_same n bytes = record { front = refl; no_longer = omega arith }

pub rests_on : (file : ℕ) (old mid new : Disk) → Rests file old mid → Rests file mid new → Rests file old new
rests_on file old mid new first second = record { seen = second.seen ∙ first.seen; leaves = λ c left. first.leaves c (second.leaves c left) }

-- what a step on a durable file leaves now
leaves_now : (file : ℕ) (step : List ℕ → List ℕ → Type 0) (old new : Disk) → IsDurable old file → Does file step old new → (image : Files) → IsImage new image → step (old.seen file) (image file) × Elsewhere file old image
leaves_now file step old new durable does image left =
    let from = does.leaves (image file) (left.left file) in (
      subst (λ d. step d (image file)) (durable from.0 from.1) from.2,
      λ other ne. (does.elsewhere other ne).leaves (image other) (left.left other),
    )

-- a step on a durable file
pub stepped : (file : ℕ) (step : List ℕ → List ℕ → Type 0) (old new : Disk) → ((bytes : List ℕ) → step bytes bytes) → IsClocked old → IsDurable old file → Does file step old new → DoesSynced file step old new
stepped file step old new same clocked durable does = record {
  elsewhere = does.elsewhere;
  any_moment = goes_on old old new _ (started old (λ image. step (old.seen file) (image file) × Elsewhere file old image) clocked (λ image left. (subst (λ d. step (old.seen file) d) (sym (durable (image file) (left.left file))) (same (old.seen file)), λ other ne. left.left other))) does.time (leaves_now file step old new durable does);
}

-- and a sync behind it
pub synced : (file : ℕ) (step : List ℕ → List ℕ → Type 0) (old mid new : Disk) → ((bytes : List ℕ) → step bytes bytes) → IsClocked old → IsDurable old file → Does file step old mid → Does file Kept mid new → DoesSynced file step old new
synced file step old mid new same clocked durable does syncs =
    let so_far = stepped file step old mid same clocked durable does in
    record {
      elsewhere = λ other ne. rests_on other old mid new (does.elsewhere other ne) (syncs.elsewhere other ne);
      any_moment = goes_on old mid new _ so_far.any_moment syncs.time (λ image left. leaves_now file step old mid durable does image (was image left));
    }
  where
    here : (image : Files) → IsImage new image → mid.leaves file (image file)
    here image left = let from = syncs.leaves (image file) (left.left file) in subst (λ d. mid.leaves file d) (sym from.2.same) from.1

    was : (image : Files) → IsImage new image → IsImage mid image
    was image left = record { bytes = left.bytes; left = at }
      where
        at : (other : ℕ) → mid.leaves other (image other)
        at other = elim (cases_eq other file) [
          | inl is ↦ subst (λ f. mid.leaves f (image f)) (sym is) (here image left)
          | inr ne ↦ (syncs.elsewhere other ne).leaves (image other) (left.left other)
        ]

pub write_stepped : (file at n : ℕ) (old new : Disk) → IsClocked old → IsDurable old file → Does file (Torn at n) old new → DoesSynced file (Torn at n) old new
write_stepped file at n old new = stepped file (Torn at n) old new (torn_same at n)

pub write_synced : (file at n : ℕ) (old mid new : Disk) → IsClocked old → IsDurable old file → Does file (Torn at n) old mid → Does file Kept mid new → DoesSynced file (Torn at n) old new
write_synced file at n old mid new = synced file (Torn at n) old mid new (torn_same at n)

pub cut_stepped : (file n : ℕ) (old new : Disk) → IsClocked old → IsDurable old file → Does file (CutTo n) old new → DoesSynced file (CutTo n) old new
cut_stepped file n old new = stepped file (CutTo n) old new (cut_same n)

pub cut_synced : (file n : ℕ) (old mid new : Disk) → IsClocked old → IsDurable old file → Does file (CutTo n) old mid → Does file Kept mid new → DoesSynced file (CutTo n) old new
cut_synced file n old mid new = synced file (CutTo n) old mid new (cut_same n)

-- calls that write nothing
pub quiet : (disk : Disk) → IsClocked disk → Quiet disk disk
quiet disk clocked = record { seen = λ file. refl; leaves = λ file c left. left; any_moment = started disk (IsImage disk) clocked (λ image left. left) }

pub quiet_on : (old mid new : Disk) (file : ℕ) → Quiet old mid → Does file Kept mid new → new.seen file ≡ mid.seen file → Quiet old new
quiet_on old mid new file so_far does same = record {
  seen = λ other. seen other ∙ so_far.seen other;
  leaves = λ other c left. so_far.leaves other c (leaves other c left);
  any_moment = goes_on old mid new (IsImage old) so_far.any_moment does.time (λ image left. record { bytes = left.bytes; left = λ other. so_far.leaves other (image other) (leaves other (image other) (left.left other)) });
}
  where
    seen : (other : ℕ) → new.seen other ≡ mid.seen other
    seen other = elim (cases_eq other file) [
      | inl is ↦ subst (λ f. new.seen f ≡ mid.seen f) (sym is) same
      | inr ne ↦ (does.elsewhere other ne).seen
    ]

    leaves : (other : ℕ) (c : List ℕ) → new.leaves other c → mid.leaves other c
    leaves other c left = elim (cases_eq other file) [
      | inl is ↦ subst (λ f. mid.leaves f c) (sym is) (let from = does.leaves c (subst (λ f. new.leaves f c) is left) in subst (λ d. mid.leaves file d) (sym from.2.same) from.1)
      | inr ne ↦ (does.elsewhere other ne).leaves c left
    ]

pub quiet_then : (old mid new : Disk) → Quiet old mid → Quiet mid new → Quiet old new
quiet_then old mid new first second = record {
  seen = λ file. second.seen file ∙ first.seen file;
  leaves = λ file c left. first.leaves file c (second.leaves file c left);
  any_moment = joined old mid new (IsImage old) (IsImage mid) first.any_moment second.any_moment (λ image left. record { bytes = left.bytes; left = λ file. first.leaves file (image file) (left.left file) });
}

pub quiet_durable : (old new : Disk) (file : ℕ) → Quiet old new → IsDurable old file → IsDurable new file
quiet_durable old new file still durable = λ c left. durable c (still.leaves file c left) ∙ sym (still.seen file)

-- a file of which a crash leaves nothing reads as empty, and did so before calls that wrote nothing
pub empty_behind : (old new : Disk) (end file : ℕ) → IsHonest new → Quiet old new → IsLeftBelow end new → end ≤ file → old.seen file ≡ []
empty_behind old new end file honest still left behind = sym (still.seen file) ∙ left file behind (new.seen file) (honest file)
