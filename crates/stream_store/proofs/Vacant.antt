-- A place that never had a stream.
use Rattle.std.proofs.Common.{◌≡◌, ◌≢◌, ◌<◌, ◌≤◌, ◌⊎◌, inl, inr, ℕ, cond, List, [], ◌∷◌, Option, Some, None, length, refl, sym, ap, subst, ◌∙◌, arith}
use Rattle.std.specs.Prelude.{IsSome, ◌==◌}
use Rattle.std.proofs.lemmas.Bool.{cases_eq, cases_order, cond-false, cond-true, eq-eqb, ne_eqb, true≢false}
use Rattle.std.proofs.lemmas.List.{nil_from_length}
use Rattle.std.proofs.lemmas.List.Elements.{All-nil}
use Rattle.vol_disk.specs.Disk.{Disk, Files}
use Rattle.vol_disk.specs.Moments.{Elsewhere}
use Rattle.js_base.specs.Bytes.{Bytes}
use Rattle.gate_log.specs.LogFile.{HasOpen}
use Rattle.effects.specs.Folding.{vacant}
use Rattle.durable_checks.specs.Storable.{IsOpenable, IsStorable}
use Rattle.op_records.specs.Spelling.{spelled_vacant}
use Rattle.block_table.specs.Blocks.{no_blocks}
use Rattle.block_reading.specs.Standing.{AreStoredIn, IsWhole}
use Rattle.log_records.specs.Batches.{Gives}
use Rattle.log_records.specs.Logged.{IsLogged}
use Rattle.stream_store.specs.Holding.{Holds, logged}
use Rattle.stream_store.specs.Logs.{LogIn, HasLogs, current, is_first}
use Rattle.stream_store.specs.Untouched.{AreBlocksGone, IsNoneOpen, IsTouchedAt, IsUntouched, allowed, begun_length, told_at}
use Rattle.stream_store.proofs.OneReading.{log_same}

pub vacant_opens : (i : ℕ) → IsOpenable (vacant i)
vacant_opens i = record { matched = tt; restorable = tt }

-- without blocks nothing is stored
pub nothing_stored : (image : Files) → AreStoredIn image no_blocks 0 []
nothing_stored image = record { whole = All-nil (IsWhole image 0); found = tt }

pub vacant_storable : IsStorable (vacant 0)
vacant_storable = record { stored = tt; bounded = omega arith }

pub vacant_logged : IsLogged (logged (vacant 0) no_blocks)
vacant_logged = record { formed = tt; messages = refl; vacant = refl; placed = refl }

-- ---- logs without an open batch

pub no_batches : (bytes : Bytes) (g : Option ℕ) (bs : List Bytes) → HasOpen bytes g bs → g ≡ None → bs ≡ []
no_batches bytes None [] h e = refl
no_batches bytes None (b ∷ bs) h e = absurd h
no_batches bytes (Some g) bs h e = absurd (cc)

module _ (image : Files) (n : IsNoneOpen image) where
  first_is : (zero one : LogIn) → HasLogs image zero one → current zero one ≡ n.zero
  first_is zero one h =
      ap (λ (l : LogIn). current l one) (log_same (image 0) zero n.zero h.in_zero n.logs.in_zero) ∙ ap (λ (l : LogIn). current n.zero l) (log_same (image 1) one n.one h.in_one n.logs.in_one)
      ∙ ap (λ (g : Option ℕ). cond (is_first n.zero.generation g) n.zero n.one) n.none_in_one

  pub none_current : (zero one : LogIn) → HasLogs image zero one → (current zero one).generation ≡ None
  none_current zero one h = ap (λ (l : LogIn). l.generation) (first_is zero one h) ∙ n.none_in_zero

  pub none_batches : (zero one : LogIn) → HasLogs image zero one → (current zero one).batches ≡ []
  none_batches zero one h = ap (λ (l : LogIn). l.batches) (first_is zero one h) ∙ no_batches (image 0) n.zero.generation n.zero.batches n.logs.in_zero n.none_in_zero

  pub none_begun : (zero one : LogIn) → HasLogs image zero one → IsSome (current zero one).generation → ⊥
  none_begun zero one h some = true≢false (sym (subst IsSome (none_current zero one h) some))

  -- the place is vacant
  pub holds_nothing : IsUntouched image → Holds image (vacant 0)
  holds_nothing untouched = (
    no_blocks,
    record {
      zero = n.zero;
      one = n.one;
      logs = n.logs;
      begun = inr untouched;
      gives = subst (λ (bs : List Bytes). Gives bs (logged (vacant 0) no_blocks)) (sym (none_batches n.zero n.one n.logs)) refl;
      stored = nothing_stored image;
      openable = vacant_opens 0;
    },
  )

-- ---- what a first start leaves

pub begun_length_is : begun_length ≡ 39
unfolding begun_length spelled_vacant
begun_length_is = refl

pub allowed_first : (file : ℕ) → file ≡ 0 → allowed file ≡ 39
allowed_first file is = cond-true (file == 0) begun_length 0 (eq-eqb file 0 is) ∙ begun_length_is

pub allowed_none : (file : ℕ) → file ≢ 0 → allowed file ≡ 0
allowed_none file apart = cond-false (file == 0) begun_length 0 (ne_eqb file 0 apart)

-- a file of which it leaves nothing
pub allows_none : (file : ℕ) (bytes : Bytes) → file ≢ 0 → length bytes ≤ allowed file → bytes ≡ []
allows_none file bytes apart within =
    let none : length bytes ≤ 0 = subst (λ (n : ℕ). length bytes ≤ n) (allowed_none file apart) within in
    nil_from_length bytes (omega (arith, none))

pub first_within : (image : Files) → IsUntouched image → length (image 0) ≤ 39
first_within image untouched = subst (λ (n : ℕ). length (image 0) ≤ n) begun_length_is (untouched 0 (omega arith))

pub others_empty : (image : Files) (file : ℕ) → IsUntouched image → 0 < file → file ≤ 65535 → image file ≡ []
others_empty image file untouched some high = allows_none file (image file) (λ is. omega (arith, is, some)) (untouched file high)

within_none : (file : ℕ) (bytes : Bytes) → bytes ≡ [] → length bytes ≤ allowed file
within_none file bytes none = subst (λ (l : Bytes). length l ≤ allowed file) (sym none) (omega arith)

-- a crash leaves no more than a short first log
pub untouched_image : (disk : Disk) (image : Files) → AreBlocksGone disk → image 1 ≡ [] → length (image 0) ≤ 39 → Elsewhere 0 disk image → IsUntouched image
untouched_image disk image gone second short e file high = elim (cases_eq file 0) [
  | inl is ↦ subst (λ (n : ℕ). length (image n) ≤ allowed n) (sym is) (subst (λ (n : ℕ). length (image 0) ≤ n) (sym begun_length_is) short)
  | inr apart ↦
      within_none file (image file)
      (elim (cases_eq file 1) [
        | inl is ↦ subst (λ (n : ℕ). image n ≡ []) (sym is) second
        | inr other ↦ gone file (record { low = omega (arith, apart, other); high = high }) (image file) (e file apart)
      ])
]

-- the first log alone became longer
pub untouched_seen : (old new : Files) → IsUntouched old → ((file : ℕ) → file ≢ 0 → new file ≡ old file) → length (new 0) ≤ 39 → IsUntouched new
untouched_seen old new untouched same short file high = elim (cases_eq file 0) [
  | inl is ↦ subst (λ (n : ℕ). length (new n) ≤ allowed n) (sym is) (subst (λ (n : ℕ). length (new 0) ≤ n) (sym begun_length_is) short)
  | inr apart ↦ subst (λ (l : Bytes). length l ≤ allowed file) (sym (same file apart)) (untouched file high)
]

-- ---- a file with more

too_many : (n most : ℕ) → n ≤ most → most < n → ⊥
too_many n most le lt = omega (arith, le, lt)

pub not_touched : (image : Files) (file at : ℕ) → IsUntouched image → IsTouchedAt image file at → ⊥
not_touched image file at untouched t = too_many (length (image file)) (allowed file) (untouched file t.is_file) t.here.more

pub record IsOnePlace (file other at place : ℕ) : Type 0 where
  pub files : file ≡ other
  pub offsets : at ≡ place

pub one_touched : (image : Files) (file other at place : ℕ) → IsTouchedAt image file at → IsTouchedAt image other place → IsOnePlace file other at place
one_touched image file other at place g h =
    let same = go (cases_order file other) in
    record { files = same; offsets = g.here.at_is ∙ ap (λ (n : ℕ). told_at n (length (image n))) same ∙ sym h.here.at_is }
  where
    go : (file ≡ other) ⊎ ((file < other) ⊎ (other < file)) → file ≡ other
    go (inl is) = is
    go (inr (inl lt)) = absurd (too_many (length (image file)) (allowed file) (h.before file lt) g.here.more)
    go (inr (inr lt)) = absurd (too_many (length (image other)) (allowed other) (g.before other lt) h.here.more)
