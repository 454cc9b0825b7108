-- The log that is not current is closed.
use Rattle.std.proofs.Common.{◌≡◌, ◌≢◌, ◌≤◌, ◌⊎◌, inl, inr, ℕ, None, List, [], length, Result, Ok, Err, OnOk, sym, subst, ◌∙◌, arith}
use Rattle.std.proofs.lemmas.Bool.{cases_eq}
use Rattle.vol_disk.specs.Disk.{Disk}
use Rattle.vol_disk.specs.Does.{Rests}
use Rattle.vol_disk.specs.Images.{IsDurable, IsHonest}
use Rattle.vol_disk.specs.Moments.{Elsewhere, LeavesOnly, Quiet}
use Rattle.vol_disk.proofs.Moments.{joined, widened}
use Rattle.gate_log.specs.LogFile.{HasOpen}
use Rattle.gate_log.specs.LogState.{LogState, generation_of}
use Rattle.gate_log.specs.Starting.{IsEmptied, Starts}
use Rattle.effects.specs.declared.durable.Durable.{Durable}
use Rattle.block_table.specs.Blocks.{Blocks}
use Rattle.block_writing.specs.Writing.{AreAsLong}
use Rattle.stream_store.specs.Alternating.{other_file}
use Rattle.stream_store.specs.Base.{IsBaseOf}
use Rattle.stream_store.specs.Clearing.{AreUsedLeft, IsOtherClosed, IsUsed, IsUsedBy, Spares}
use Rattle.stream_store.specs.Holding.{Holds}
use Rattle.stream_store.specs.Staging.{DropsUnused}
use Rattle.stream_store.specs.Steps.{with_steps}
use Rattle.stream_store.specs.StoreState.{StoreState}
use Rattle.stream_store.specs.Writing.{IsWrittenNext}
use Rattle.stream_store.specs.declared.staging.Staged.{Staged}
use Rattle.stream_store.proofs.Alternated.{high_block, other_apart, other_low, shut_base, some_other_of, starting_keeps}
use Rattle.stream_store.proofs.Cleared.{keeps_base, leaves_base, rests_quiet, spares_fewer, spares_then}
use Rattle.stream_store.proofs.Committing.{OneOfBoth, kept_used, log_low}
use Rattle.stream_store.proofs.Known.{log_as_long, none_longer}
use Rattle.stream_store.proofs.StagedNext.{some_in}

-- ---- one file

on_both : {T E A B C : Type 0} (r : Result T E) → (A → B → C) → OnOk r A → OnOk r B → OnOk r C
on_both (Ok value) f a b = f a b
on_both (Err fault) f a b = tt

module _ {T E : Type 0} (r : Result T E) (log : LogState) (file : ℕ) (file_is : file ≡ other_file log.file) (disk : Disk) (firm : OnOk r (IsDurable disk file)) where
  pub closed_shut : OnOk r (HasOpen (disk.seen file) None []) → OnOk r (IsOtherClosed log disk)
  closed_shut shut =
      on_both r (λ (none : HasOpen (disk.seen file) None []) (is : IsDurable disk file).
      subst (λ (n : ℕ). (bytes : List ℕ) → disk.leaves n bytes → HasOpen bytes None []) file_is (λ bytes left. subst (λ (l : List ℕ). HasOpen l None []) (sym (is bytes left)) none)) shut firm

  pub closed_firm : OnOk r (IsDurable disk (other_file log.file))
  closed_firm = subst (λ (n : ℕ). OnOk r (IsDurable disk n)) file_is firm

-- the other log was one, so it is shut
pub shut_of : {T E : Type 0} (r : Result T E) (log : LogState) (b : Blocks) (base : Durable) (old : Disk) (file : ℕ) → file ≡ other_file log.file → (new : Disk) → IsBaseOf log b base old → OnOk r (IsEmptied (old.seen file) (new.seen file))
    → OnOk r (HasOpen (new.seen file) None [])
shut_of (Ok value) log b base old file file_is new is emptied =
    let other = some_other_of log b base old is in
    emptied other.0.generation other.0.batches (subst (λ (n : ℕ). HasOpen (old.seen n) other.0.generation other.0.batches) (sym file_is) other.1)
shut_of (Err fault) log b base old file file_is new is emptied = tt

pub closed_as_long : {T E : Type 0} (r : Result T E) (file : ℕ) (old new : Disk) → Starts file old new → OnOk r (length (new.seen file) ≡ length (old.seen file)) → OnOk r (AreAsLong old new)
closed_as_long (Ok value) file old new s same = log_as_long file old old new (none_longer old) s.elsewhere same
closed_as_long (Err fault) file old new s same = tt

-- ---- what the volume holds

module _ (log : LogState) (b : Blocks) (base : Durable) (old mid : Disk) (is : IsBaseOf log b base old) (s : Starts (other_file log.file) old mid) where
  pub closing_leaves : LeavesOnly old mid (λ image. Holds image base)
  closing_leaves = let begun = some_in (generation_of log) is.begun in starting_keeps log b base old is begun.0 begun.1 mid s

  pub closed_base : IsOtherClosed log mid → IsDurable mid (other_file log.file) → IsHonest mid → IsBaseOf log b base mid
  closed_base closed firm honest =
      let begun = some_in (generation_of log) is.begun in
      shut_base log b base old is begun.0 begun.1 mid s (closed (mid.seen (other_file log.file)) (honest (other_file log.file))) firm

-- behind a commit
pub next_closing : (log : LogState) (b : Blocks) (base next : Durable) (old mid new : Disk) → LeavesOnly old mid (OneOfBoth base next) → IsBaseOf log b next mid → Starts (other_file log.file) mid new → LeavesOnly old new (OneOfBoth base next)
next_closing log b base next old mid new leaves is s = joined old mid new (OneOfBoth base next) (λ image. Holds image next) leaves (closing_leaves log b next mid new is s) (λ image h. inr h)

-- ---- it stays closed

pub closed_rests : (log : LogState) (old new : Disk) → Rests (other_file log.file) old new → IsOtherClosed log old → IsOtherClosed log new
closed_rests log old new rests closed bytes left = closed bytes (rests.leaves bytes left)

pub closed_spared : (log : LogState) (b : Blocks) (old new : Disk) → Spares (IsUsed b) old new → IsOtherClosed log old → IsOtherClosed log new
closed_spared log b old new spares = closed_rests log old new (spares.used (other_file log.file) (inl (other_low log.file)))

pub closed_dropped : (log : LogState) (b : Blocks) (old new : Disk) → DropsUnused b old new → IsOtherClosed log old → IsOtherClosed log new
closed_dropped log b old new drops =
    closed_rests log old new (drops.changes.elsewhere (other_file log.file) (kept_used b drops.ks (other_file log.file) drops.behind_logs (inl (other_low log.file))))

-- ---- no file is touched that is used

module _ (store : StoreState) (base : Durable) (old : Disk) (is : IsBaseOf store.log store.blocks base old) where
  used_apart : (file : ℕ) → IsUsedBy store file → file ≢ other_file store.log.file
  used_apart file (inl same) is_other = other_apart store.log.file (log_low store.log store.blocks base old is) (sym is_other ∙ same)
  used_apart file (inr has) is_other = let high = high_block store.blocks file is.table has in let below = other_low store.log.file in omega (arith, high, below, is_other)

  used_of : (file : ℕ) → IsUsedBy store file → IsUsed store.blocks file
  used_of file (inl same) = let below = log_low store.log store.blocks base old is in inl (omega (arith, same, below))
  used_of file (inr has) = inr has

  pub spares_closed : (mid : Disk) → Starts (other_file store.log.file) old mid → (HasOpen (old.seen (other_file store.log.file)) None [] → Quiet old mid) → Spares (IsUsedBy store) old mid
  spares_closed mid s still = record {
    used = λ file used. s.elsewhere file (used_apart file used);
    empty = λ file none. elim (cases_eq file (other_file store.log.file)) [
      | inl same ↦ rests_quiet file old mid (still (inl (subst (λ (l : List ℕ). length l ≤ 21) (sym (subst (λ (n : ℕ). old.seen n ≡ []) same none)) (omega arith))))
      | inr ne ↦ s.elsewhere file ne
    ];
    any_moment = widened old mid (AreUsedLeft (IsUsedBy store) old)
        (λ image. ((image (other_file store.log.file) ≡ old.seen (other_file store.log.file)) ⊎ IsEmptied (old.seen (other_file store.log.file)) (image (other_file store.log.file))) × Elsewhere (other_file store.log.file) old image)
        s.any_moment (λ image h file used. h.1 file (used_apart file used));
  }

  pub spares_both : (mid new : Disk) → Spares (IsUsedBy store) old mid → Spares (IsUsed store.blocks) mid new → Spares (IsUsedBy store) old new
  spares_both mid new first second = spares_then (IsUsedBy store) old mid new first (spares_fewer (IsUsed store.blocks) (IsUsedBy store) mid new used_of second)

-- ---- clearing behind it

module _ (store : StoreState) (base : Durable) (old mid new : Disk) (is : IsBaseOf store.log store.blocks base old) (s : Starts (other_file store.log.file) old mid) (closed : IsOtherClosed store.log mid)
    (firm : IsDurable mid (other_file store.log.file)) (honest : IsHonest mid) (spares : Spares (IsUsed store.blocks) mid new) where
  base_mid : IsBaseOf store.log store.blocks base mid
  base_mid = closed_base store.log store.blocks base old mid is s closed firm honest

  pub both_base : IsBaseOf store.log store.blocks base new
  both_base = keeps_base store base mid new spares base_mid

  pub both_leaves : LeavesOnly old new (λ image. Holds image base)
  both_leaves =
      joined old mid new (λ image. Holds image base) (λ image. Holds image base) (closing_leaves store.log store.blocks base old mid is s) (leaves_base store base mid new spares base_mid) (λ image h. h)

-- ---- what was written stays

pub closed_written : (into after : LogState) (staged : Staged) (old mid new : Disk) → IsWrittenNext into after staged old mid → Starts (other_file after.file) mid new → IsHonest new → IsOtherClosed after new
    → IsDurable new (other_file after.file) → IsWrittenNext into after staged old new
closed_written into after staged old mid new written s honest shut is log b base next t = closed_base after (with_steps staged.steps.items b) next mid new (written log b base next t) s shut is honest
