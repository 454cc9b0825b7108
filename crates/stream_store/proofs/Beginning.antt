-- The first log of a volume.
use Rattle.std.proofs.Common.{◌≡◌, ◌⊎◌, inl, inr, ℕ, ◌<◌, ◌≤◌, ◌^◌, max, Bool, true, false, cond, [], ◌∷◌, Option, Some, None, IfSome, length, refl, sym, ap, subst, ◌∙◌, arith}
use Rattle.std.specs.Prelude.{IsSome, All, ◌==◌}
use Rattle.js_model.proofs.Named.{none_some}
use Rattle.vol_disk.specs.Clock.{IsClocked}
use Rattle.vol_disk.specs.Disk.{Disk, Files}
use Rattle.vol_disk.specs.Does.{Rests}
use Rattle.vol_disk.specs.Images.{IsDurable, IsImage}
use Rattle.vol_disk.specs.Moments.{Quiet, LeavesOnly, Elsewhere}
use Rattle.vol_disk.proofs.Moments.{started, widened, joined, rests_on}
use Rattle.std.proofs.lemmas.List.Elements.{All-nil}
use Rattle.std.proofs.Math.Path.{fun_ext}
use Rattle.js_base.specs.Bytes.{Bytes}
use Rattle.gate_log.specs.LogFile.{IsLog, HasOpen}
use Rattle.gate_log.specs.LogState.{LogState, generation_of, new_log, with_batch}
use Rattle.gate_log.specs.Settled.{IsSettled}
use Rattle.gate_log.specs.Growing.{GrowsTo, KeepsOpen, LeavesOpen, StaysAsLong}
use Rattle.gate_log.proofs.OneReading.{none_shut}
use Rattle.gate_log.specs.Starting.{Starts, IsEmptied}
use Rattle.gate_log.specs.Appending.{IsWithOrWithout, AppendsTo, IsAppended}
use Rattle.effects.specs.declared.durable.Durable.{Durable}
use Rattle.effects.specs.Folding.{vacant}
use Rattle.op_records.specs.Spelling.{spelled_vacant}
use Rattle.op_records.specs.Laws.{IsBatch}
use Rattle.state_snapshot.specs.Spelling.{spelled_snapshot}
use Rattle.block_table.specs.Blocks.{no_blocks}
use Rattle.block_table.specs.Tables.{IsFile}
use Rattle.block_table.proofs.Tables.{table_none}
use Rattle.log_records.specs.Batches.{Begins, Gives}
use Rattle.log_records.specs.Laws.{snapshot_in}
use Rattle.log_records.specs.Logged.{beginning}
use Rattle.log_records.proofs.Following.{law_begins}
use Rattle.stream_store.specs.Logs.{LogIn, HasLog, HasLogs, is_first}
use Rattle.stream_store.specs.Holding.{Holds, logged}
use Rattle.stream_store.specs.Base.{IsBaseOf}
use Rattle.stream_store.specs.Beginning.{IsUnbegun, HoldsNothing}
use Rattle.stream_store.specs.Opening.{KeepsHeld, RestsBut}
use Rattle.stream_store.proofs.Basing.{IsNow, IsStoredBase, base_of}
use Rattle.stream_store.proofs.Blocks.{IsFirm, firm_blocks}
use Rattle.stream_store.specs.Untouched.{IsUntouched}
use Rattle.stream_store.proofs.OneReading.{holds_same}
use Rattle.stream_store.proofs.Vacant.{first_within, holds_nothing, nothing_stored, others_empty, untouched_image, untouched_seen, vacant_logged, vacant_opens, vacant_storable}

-- ---- a vacant place

vacant_base : (disk : Disk) → IsStoredBase no_blocks (vacant 0) disk
vacant_base disk = record {
  table = table_none;
  stand = firm_blocks no_blocks disk (All-nil (IsFirm disk));
  storable = vacant_storable;
  given = vacant_logged;
  stored = nothing_stored disk.seen;
  openable = vacant_opens 0;
}

abbrev nothing_open : LogIn
nothing_open = record { generation = None; batches = [] }

-- where neither log has an open batch, and nothing is there that a stream leaves, the place is vacant
holds_none : (image : Files) (zero one : LogIn) → HasLogs image zero one → zero.generation ≡ None → one.generation ≡ None → IsUntouched image → Holds image (vacant 0)
holds_none image zero one h none nothing untouched = holds_nothing image (record { zero = zero; one = one; logs = h; none_in_zero = none; none_in_one = nothing }) untouched

-- both are left
both_left : (old new : Disk) (P Q : Files → Type 0) → LeavesOnly old new P → LeavesOnly old new Q → LeavesOnly old new (λ image. P image × Q image)
both_left old new P Q p q = record {
  later = p.later;
  each = λ image left. (p.each image left, q.each image left);
  before = λ t image le left. go (p.before t image le left) (q.before t image le left);
}
  where
    go : {A B C : Type 0} → A ⊎ B → A ⊎ C → A ⊎ (B × C)
    go (inl a) q = inl a
    go (inr b) (inl a) = inl a
    go (inr b) (inr c) = inr (b, c)

module _ (old : Disk) (u : IsUnbegun old) where
  pub unbegun_holds : Holds old.seen (vacant 0)
  unbegun_holds = holds_nothing old.seen u.none u.untouched

  one_stays : (image : Files) → Elsewhere 0 old image → image 1 ≡ old.seen 1
  one_stays image e = u.durable_one (image 1) (e 1 (λ is. absurd (omega arith)))

  still_untouched : (image : Files) → length (image 0) ≤ 39 → Elsewhere 0 old image → IsUntouched image
  still_untouched image short e = untouched_image old image u.gone (one_stays image e ∙ others_empty old.seen 1 u.untouched (omega arith) (omega arith)) short e

  -- as the log is started
  starting_holds : (image : Files) → (image 0 ≡ old.seen 0) ⊎ IsEmptied (old.seen 0) (image 0) → length (image 0) ≤ 39 → Elsewhere 0 old image → Holds image (vacant 0)
  starting_holds image (inl same) short e =
      holds_none image u.none.zero u.none.one
      (record { in_zero = subst (λ (l : Bytes). HasLog l u.none.zero) (sym same) u.none.logs.in_zero; in_one = subst (λ (l : Bytes). HasLog l u.none.one) (sym (one_stays image e)) u.none.logs.in_one })
      u.none.none_in_zero u.none.none_in_one (still_untouched image short e)
  starting_holds image (inr emptied) short e =
      holds_none image nothing_open u.none.one
      (record { in_zero = emptied u.none.zero.generation u.none.zero.batches u.none.logs.in_zero; in_one = subst (λ (l : Bytes). HasLog l u.none.one) (sym (one_stays image e)) u.none.logs.in_one })
      refl u.none.none_in_one (still_untouched image short e)

  pub starting : (mid : Disk) → Starts 0 old mid → StaysAsLong 0 old mid → HoldsNothing old mid
  starting mid s stays =
      widened old mid (λ image. Holds image (vacant 0)) (λ image. (((image 0 ≡ old.seen 0) ⊎ IsEmptied (old.seen 0) (image 0)) × Elsewhere 0 old image) × (length (image 0) ≡ length (old.seen 0)))
      (both_left old mid (λ image. ((image 0 ≡ old.seen 0) ⊎ IsEmptied (old.seen 0) (image 0)) × Elsewhere 0 old image) (λ image. length (image 0) ≡ length (old.seen 0)) s.any_moment stays)
      (λ image h. let first = first_within old.seen u.untouched in let size = h.1 in starting_holds image h.0.0 (omega (arith, first, size)) h.0.1)

  -- as room is made for it
  pub making_room : (mid : Disk) → LeavesOpen 0 old mid → GrowsTo 0 39 old mid → HoldsNothing old mid
  making_room mid leaves grows =
      widened old mid (λ image. Holds image (vacant 0)) (λ image. (KeepsOpen (old.seen 0) (image 0) × Elsewhere 0 old image) × (length (image 0) ≤ max 39 (length (old.seen 0))))
      (both_left old mid (λ image. KeepsOpen (old.seen 0) (image 0) × Elsewhere 0 old image) (λ image. length (image 0) ≤ max 39 (length (old.seen 0))) leaves.any_moment grows)
      (λ image h.
      let first = first_within old.seen u.untouched in
      let size = h.1 in
      holds_none image u.none.zero u.none.one
      (record { in_zero = h.0.0 u.none.zero.generation u.none.zero.batches u.none.logs.in_zero; in_one = subst (λ (l : Bytes). HasLog l u.none.one) (sym (one_stays image h.0.1)) u.none.logs.in_one })
      u.none.none_in_zero u.none.none_in_one (still_untouched image (omega (arith, first, size)) h.0.1))

  -- and then
  pub unbegun_with_room : (mid : Disk) → LeavesOpen 0 old mid → KeepsOpen (old.seen 0) (mid.seen 0) → IsDurable mid 0 → length (mid.seen 0) ≤ max 39 (length (old.seen 0)) → IsUnbegun mid
  unbegun_with_room mid leaves keeps firm size =
      let one = leaves.elsewhere 1 (λ is. absurd (omega arith)) in
      let first = first_within old.seen u.untouched in
      record {
        none = record {
          zero = u.none.zero;
          one = u.none.one;
          logs = record { in_zero = keeps u.none.zero.generation u.none.zero.batches u.none.logs.in_zero; in_one = subst (λ (l : Bytes). HasLog l u.none.one) (sym one.seen) u.none.logs.in_one };
          none_in_zero = u.none.none_in_zero;
          none_in_one = u.none.none_in_one;
        };
        durable_zero = firm;
        durable_one = λ bytes left. u.durable_one bytes (one.leaves bytes left) ∙ sym one.seen;
        untouched = untouched_seen old.seen mid.seen u.untouched (λ file apart. (leaves.elsewhere file apart).seen) (omega (arith, first, size));
        gone = λ file is bytes left. u.gone file is bytes ((leaves.elsewhere file (λ same. absurd (not_first file is same))).leaves bytes left);
      }
    where
      not_first : (file : ℕ) → IsFile file → file ≡ 0 → ⊥
      not_first file is same = let low = is.low in omega (arith, low, same)

  -- where nothing is written
  pub unbegun_stays : IsClocked old → HoldsNothing old old
  unbegun_stays clocked = started old (λ image. Holds image (vacant 0)) clocked (λ image is. let same = u.durable_zero (image 0) (is.left 0) in starting_holds image (inl same) (subst (λ (l : Bytes). length l ≤ 39) (sym same) (first_within old.seen u.untouched)) (λ file apart. is.left file))

  -- as its first batch is appended
  module _ (mid : Disk) (s : Starts 0 old mid) (stays : StaysAsLong 0 old mid) (size : length (mid.seen 0) ≡ length (old.seen 0)) (log : LogState) (log_is : log ≡ new_log 0 (Some 1)) (settled : IsSettled log [] mid) (records : Bytes) (records_are : records ≡ spelled_vacant 0) (bytes : All (λ byte. byte < 256) records) where
    rests : Rests 1 old mid
    rests = s.elsewhere 1 (λ is. absurd (omega arith))

    spelled_is : snapshot_in (beginning 0) ≡ spelled_vacant 0
    unfolding spelled_snapshot
    spelled_is = refl

    short : length records < 2 ^ 32
    unfolding spelled_vacant
    short = subst (λ (l : Bytes). length l < 2 ^ 32) (sym records_are) (omega arith)

    begins : Begins records (beginning 0)
    begins =
        let same : snapshot_in (beginning 0) ≡ records = spelled_is ∙ sym records_are in
        subst (λ (l : Bytes). Begins l (beginning 0)) same
        (law_begins.begins (beginning 0) vacant_logged (record { table = table_none; storable = vacant_storable }) (subst IsBatch (sym same) (record { are_bytes = bytes; short = short })))

    pub gives : Gives (records ∷ []) (logged (vacant 0) no_blocks)
    gives = (beginning 0, begins, refl)

    one_of : (image : Files) → Elsewhere 0 mid image → image 1 ≡ old.seen 1
    one_of image e = u.durable_one (image 1) (rests.leaves (image 1) (e 1 (λ is. absurd (omega arith))))

    begun_logs : (image : Files) → image 1 ≡ old.seen 1 → IsLog 1 (records ∷ []) (image 0) → HasLogs image (record { generation = Some 1; batches = records ∷ [] }) u.none.one
    begun_logs image stays is = record { in_zero = is; in_one = subst (λ (l : Bytes). HasLog l u.none.one) (sym stays) u.none.logs.in_one }

    is_current : is_first (Some 1) u.none.one.generation ≡ true
    is_current = ap (is_first (Some 1)) u.none.none_in_one

    elsewhere_of : (image : Files) → Elsewhere 0 mid image → Elsewhere 0 old image
    elsewhere_of image e file apart = (s.elsewhere file apart).leaves (image file) (e file apart)

    appending_holds : (image : Files) → IsWithOrWithout 1 [] records (image 0) → length (image 0) ≤ 39 → Elsewhere 0 mid image → Holds image (vacant 0)
    appending_holds image (inl without) few e =
        holds_none image nothing_open u.none.one
        (record { in_zero = inr (none_shut (image 0) 1 without); in_one = subst (λ (l : Bytes). HasLog l u.none.one) (sym (one_of image e)) u.none.logs.in_one })
        refl u.none.none_in_one (still_untouched image few (elsewhere_of image e))
    appending_holds image (inr longer) few e = (
      no_blocks,
      record {
        zero = record { generation = Some 1; batches = records ∷ [] };
        one = u.none.one;
        logs = begun_logs image (one_of image e) longer;
        begun = inl (subst (λ (b : Bool). IsSome (cond b (record { generation = Some 1; batches = records ∷ [] }) u.none.one).generation) (sym is_current) refl);
        gives = subst (λ (b : Bool). Gives (cond b (record { generation = Some 1; batches = records ∷ [] }) u.none.one).batches (logged (vacant 0) no_blocks)) (sym is_current) gives;
        stored = nothing_stored image;
        openable = vacant_opens 0;
      },
    )

    pub appending : (new : Disk) → AppendsTo log records mid new → StaysAsLong log.file mid new → HoldsNothing old new
    appending new appends more =
        let a = appends [] settled in
        let moments = subst (λ (l : LogState). LeavesOnly mid new (λ image. IfSome l.head (λ g. IsWithOrWithout g [] records (image l.file)) × Elsewhere l.file mid image)) log_is a.any_moment in
        let lengths = subst (λ (l : LogState). StaysAsLong l.file mid new) log_is more in
        let first = first_within old.seen u.untouched in
        joined old mid new (λ image. Holds image (vacant 0)) (λ image. (IsWithOrWithout 1 [] records (image 0) × Elsewhere 0 mid image) × (length (image 0) ≡ length (mid.seen 0)))
        (starting mid s stays)
        (both_left mid new (λ image. IsWithOrWithout 1 [] records (image 0) × Elsewhere 0 mid image) (λ image. length (image 0) ≡ length (mid.seen 0)) moments lengths)
        (λ image h. let same = h.1 in appending_holds image h.0.0 (omega (arith, same, size, first)) h.0.1)

    pub begun : (after : LogState) (new : Disk) → AppendsTo log records mid new → IsAppended log after records mid new → after ≡ with_batch log (length records) → IsBaseOf after no_blocks (vacant 0) new
    unfolding spelled_vacant
    begun after new appends appended is =
        let settled_after = appended [] settled in
        let a = appends [] settled in
        let after_is : after ≡ with_batch (new_log 0 (Some 1)) (length records) = is ∙ ap (λ (l : LogState). with_batch l (length records)) log_is in
        let file : after.file ≡ 0 = ap (λ (l : LogState). l.file) after_is in
        let file_log : log.file ≡ 0 = ap (λ (l : LogState). l.file) log_is in
        let rests_on = a.elsewhere 1 (λ same. absurd (omega (arith, same, file_log))) in
        let generation : generation_of after ≡ Some 1 = ap generation_of after_is ∙ generation_one in
        let one_is : new.seen 1 ≡ old.seen 1 = rests_on.seen ∙ rests.seen in
        let has : HasLog (new.seen 0) (record { generation = Some 1; batches = records ∷ [] }) = subst (λ (f : ℕ). HasOpen (new.seen f) (Some 1) (records ∷ [])) file (subst (λ (g : Option ℕ). HasOpen (new.seen after.file) g (records ∷ [])) generation settled_after.read) in
        let durable_one : IsDurable new 1 = λ bytes left. u.durable_one bytes (rests.leaves bytes (rests_on.leaves bytes left)) ∙ sym one_is in
        let now : IsNow after (records ∷ []) new.seen = record {
          zero = record { generation = Some 1; batches = records ∷ [] };
          one = u.none.one;
          logs = begun_logs new.seen one_is has;
          file_is = ap (λ (b : Bool). cond b 0 1) is_current ∙ sym file;
          generation_is = ap (λ (b : Bool). (cond b (record { generation = Some 1; batches = records ∷ [] }) u.none.one).generation) is_current ∙ sym generation;
          batches_are = ap (λ (b : Bool). (cond b (record { generation = Some 1; batches = records ∷ [] }) u.none.one).batches) is_current;
        } in
        base_of after (records ∷ []) new no_blocks (vacant 0) now settled_after (subst IsSome (sym generation) refl) (subst (IsDurable new) file settled_after.durable) durable_one gives (vacant_base new)
      where
        generation_one : generation_of (with_batch (new_log 0 (Some 1)) (length records)) ≡ Some 1
        generation_one = ap (λ (l : Bytes). generation_of (with_batch (new_log 0 (Some 1)) (length l))) records_are ∙ refl

-- ---- one call behind another

pub vacant_length : (records : Bytes) → records ≡ spelled_vacant 0 → length records ≡ 9
unfolding spelled_vacant
vacant_length records are = subst (λ (l : Bytes). length l ≡ 9) (sym are) (omega arith)

pub nothing_then : (old mid new : Disk) → HoldsNothing old mid → HoldsNothing mid new → HoldsNothing old new
nothing_then old mid new first second = joined old mid new (λ image. Holds image (vacant 0)) (λ image. Holds image (vacant 0)) first second (λ image h. h)

pub rests_with_room : (old mid new : Disk) → RestsBut 0 old mid → RestsBut 0 mid new → RestsBut 0 old new
rests_with_room old mid new first second file apart = rests_on file old mid new (first file apart) (second file apart)

-- ---- the other files

pub still_rests : (old new : Disk) → Quiet old new → RestsBut 0 old new
still_rests old new still file apart = record { seen = still.seen file; leaves = still.leaves file }

pub rests_then : (old mid new : Disk) → Quiet old mid → RestsBut 0 mid new → RestsBut 0 old new
rests_then old mid new still rests file apart = rests_on file old mid new (still_rests old mid still file apart) (rests file apart)

pub begun_rests : (old mid new : Disk) (log : LogState) (records : Bytes) → Starts 0 old mid → log.file ≡ 0 → IsSettled log [] mid → AppendsTo log records mid new → RestsBut 0 old new
begun_rests old mid new log records s file settled appends other apart = rests_on other old mid new (s.elsewhere other apart) ((appends [] settled).elsewhere other (λ is. apart (is ∙ file)))

-- a log that has a generation has it in its head
pub head_is : (log : LogState) (generation : ℕ) → generation_of log ≡ Some generation → log.head ≡ Some generation
head_is log generation e = go (log.end == 20) e
  where
    go : (b : Bool) → cond b None log.head ≡ Some generation → log.head ≡ Some generation
    go true h = absurd (none_some h)
    go false h = h

-- ---- what was held is held

pub held_quiet : (old new : Disk) → Quiet old new → KeepsHeld old new
held_quiet old new still d seen all = widened old new (λ image. Holds image d) (IsImage old) still.any_moment (λ image is. all image is)

pub held_begun : (old mid new : Disk) → Quiet old mid → IsUnbegun mid → HoldsNothing mid new → KeepsHeld old new
held_begun old mid new still u nothing d seen all =
    let same : d ≡ vacant 0 = holds_same mid.seen d (vacant 0) (held_in_mid d seen) (unbegun_holds mid u) in
    joined old mid new (λ image. Holds image d) (λ image. Holds image (vacant 0)) (held_quiet old mid still d seen all) nothing (λ image h. subst (Holds image) (sym same) h)
  where
    held_in_mid : (d : Durable) → Holds old.seen d → Holds mid.seen d
    held_in_mid d h = subst (λ (x : Files). Holds x d) (sym (fun_ext still.seen)) h
