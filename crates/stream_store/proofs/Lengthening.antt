-- What the volume holds while files get longer, or are cut behind what they hold.
use Rattle.std.proofs.Common.{◌≡◌, ◌≢◌, ◌≤◌, ◌<◌, inl, inr, ℕ, true, List, length, take, sym, ap, subst, ◌∙◌, arith}
use Rattle.std.specs.Io.{StartsWith}
use Rattle.std.proofs.lemmas.Bool.{cases_eq}
use Rattle.std.proofs.lemmas.List.{length-append, length-take, take-append-le, take-take}
use Rattle.vol_disk.specs.Disk.{Disk, Files}
use Rattle.vol_disk.specs.Does.{Rests}
use Rattle.vol_disk.specs.Growing.{ExtendsAt, IsExtended, IsExtendedImage}
use Rattle.vol_disk.specs.Images.{IsDurable}
use Rattle.vol_disk.specs.Moments.{Elsewhere, LeavesOnly}
use Rattle.vol_disk.proofs.Moments.{widened}
use Rattle.js_base.specs.Bytes.{Bytes}
use Rattle.gate_log.specs.Growing.{KeepsOpen, LeavesOpen}
use Rattle.gate_log.specs.LogFile.{HasOpen}
use Rattle.gate_log.specs.LogState.{LogState}
use Rattle.gate_log.proofs.Rooms.{settled_kept}
use Rattle.effects.specs.declared.durable.Durable.{Durable}
use Rattle.block_table.specs.Blocks.{Blocks, has_block}
use Rattle.block_reading.specs.Standing.{AreStoredIn}
use Rattle.block_writing.specs.Writing.{BlocksStand, end_in, front_in}
use Rattle.message_block.specs.Standing.{Stands}
use Rattle.message_block.proofs.Standing.{stands_at_rest}
use Rattle.log_records.specs.Unread.{stored_messages}
use Rattle.stream_store.specs.Base.{IsBaseOf}
use Rattle.stream_store.specs.Holding.{Holds, last_of}
use Rattle.stream_store.specs.Rooms.{AreLonger}
use Rattle.stream_store.proofs.Alternated.{durable_log, high_block}
use Rattle.stream_store.proofs.Basing.{IsNow, base_begun, base_gives, base_of, holds_by, holds_now, now_of}
use Rattle.stream_store.proofs.Blocks.{same_fronts, stored_moved}
use Rattle.stream_store.proofs.Committing.{durable_by, log_low, settled_by, stand_new, starts, used_new}

-- ---- a log

-- both logs hold what they held
now_kept : (log : LogState) (batches : List Bytes) (old new : Files) → IsNow log batches old → KeepsOpen (old 0) (new 0) → KeepsOpen (old 1) (new 1) → IsNow log batches new
now_kept log batches old new n zero one = record {
  zero = n.zero;
  one = n.one;
  logs = record { in_zero = zero n.zero.generation n.zero.batches n.logs.in_zero; in_one = one n.one.generation n.one.batches n.logs.in_one };
  file_is = n.file_is;
  generation_is = n.generation_is;
  batches_are = n.batches_are;
}

keeps_same : (old new : Bytes) → new ≡ old → KeepsOpen old new
keeps_same old new same generation batches = subst (λ (l : Bytes). HasOpen l generation batches) (sym same)

module _ (file : ℕ) (low : file < 2) (old new : Disk) (log : LogState) (b : Blocks) (base : Durable) (k : IsBaseOf log b base old) where
  -- the files of blocks are others
  apart : (other : ℕ) → has_block b other ≡ true → other ≢ file
  apart other has is = let high = high_block b other k.table has in omega (arith, high, is, low)

  now_old : IsNow log k.settled.0 old.seen
  now_old = now_of log k.settled.0 old b base k k.settled.1

  module _ (image : Files) (keeps : KeepsOpen (old.seen file) (image file)) (e : Elsewhere file old image) where
    keeps_in : (other : ℕ) → other < 2 → KeepsOpen (old.seen other) (image other)
    keeps_in other is_low = elim (cases_eq other file) [
      | inl same ↦ subst (λ (n : ℕ). KeepsOpen (old.seen n) (image n)) (sym same) keeps
      | inr ne ↦ keeps_same (old.seen other) (image other) (durable_log log b base old k other is_low (image other) (e other ne))
    ]

    stored : AreStoredIn image b (last_of base) (stored_messages base)
    stored =
        let used = λ (other : ℕ) (has : has_block b other ≡ true). (k.stand.stand other).left (image other) (e other (apart other has)) in
        stored_moved old.seen image b (last_of base) (stored_messages base) k.table (same_fronts b old image k.table k.stand (starts log b base old old k image used)) k.holds.stored

    log_holds : Holds image base
    log_holds = (
      b,
      holds_now log k.settled.0 image b base (now_kept log k.settled.0 old.seen image now_old (keeps_in 0 (omega arith)) (keeps_in 1 (omega arith))) k.begun (base_gives log k.settled.0 old b base k k.settled.1) stored k.holds.openable,
    )

  pub log_leaves : LeavesOpen file old new → LeavesOnly old new (λ image. Holds image base)
  log_leaves leaves = widened old new (λ image. Holds image base) (λ image. KeepsOpen (old.seen file) (image file) × Elsewhere file old image) leaves.any_moment (λ image h. log_holds image h.0 h.1)

  module _ (elsewhere : (other : ℕ) → other ≢ file → Rests other old new) (keeps : KeepsOpen (old.seen file) (new.seen file)) (firm : IsDurable new file) where
    seen_kept : (other : ℕ) → KeepsOpen (old.seen other) (new.seen other)
    seen_kept other = elim (cases_eq other file) [
      | inl same ↦ subst (λ (n : ℕ). KeepsOpen (old.seen n) (new.seen n)) (sym same) keeps
      | inr ne ↦ keeps_same (old.seen other) (new.seen other) (elsewhere other ne).seen
    ]

    firm_both : (other : ℕ) → other < 2 → IsDurable new other
    firm_both other is_low = elim (cases_eq other file) [
      | inl same ↦ subst (IsDurable new) (sym same) firm
      | inr ne ↦ durable_by other old new (elsewhere other ne) (durable_log log b base old k other is_low)
    ]

    rests_block : (other : ℕ) → has_block b other ≡ true → Rests other old new
    rests_block other has = elsewhere other (apart other has)

    pub log_base : IsBaseOf log b base new
    log_base =
        base_of log k.settled.0 new b base (now_kept log k.settled.0 old.seen new.seen now_old (seen_kept 0) (seen_kept 1))
        (settled_kept log k.settled.0 old new (seen_kept log.file) (firm_both log.file (log_low log b base old k)) k.begun k.settled.1) k.begun
        (firm_both 0 (omega arith)) (firm_both 1 (omega arith)) (base_gives log k.settled.0 old b base k k.settled.1)
        (record {
          table = k.table;
          stand = stand_new log b base old new k rests_block;
          storable = k.storable;
          given = k.given;
          stored =
              stored_moved old.seen new.seen b (last_of base) (stored_messages base) k.table
              (same_fronts b old new.seen k.table k.stand (starts log b base old new k new.seen (used_new log b base old new k rests_block))) k.holds.stored;
          openable = k.holds.openable;
        })

-- ---- a file for messages

module _ (file : ℕ) (high : 2 ≤ file) (end : ℕ) (old new : Disk) (extends : ExtendsAt file end old new) (log : LogState) (b : Blocks) (base : Durable) (k : IsBaseOf log b base old) where
  -- the front of a block stands in what extends it
  front_kept : (bytes : Bytes) → IsExtendedImage file end old bytes → StartsWith bytes (front_in b old.seen file)
  front_kept bytes (before, left, more) =
      let front = front_in b old.seen file in
      let within : length front ≤ length (old.seen file) = omega (arith, length-take (end_in b file) (old.seen file)) in
      sym (take-take (length front) (length (old.seen file)) bytes within) ∙ ap (take (length front)) more.front
      ∙ take-take (length front) (length (old.seen file)) before within ∙ (k.stand.stand file).left before left

  file_holds : (image : Files) → IsExtendedImage file end old (image file) → Elsewhere file old image → Holds image base
  file_holds image extended e = (
    b,
    holds_by old.seen image b base k.table (k.durable_zero (image 0) (e 0 (λ is. omega (arith, is, high)))) (k.durable_one (image 1) (e 1 (λ is. omega (arith, is, high))))
        (same_fronts b old image k.table k.stand fronts) (base_begun log old b base k) k.holds,
  )
    where
      fronts : (other : ℕ) → StartsWith (image other) (front_in b old.seen other)
      fronts other = elim (cases_eq other file) [
        | inl same ↦ subst (λ (n : ℕ). StartsWith (image n) (front_in b old.seen n)) (sym same) (front_kept (image file) extended)
        | inr ne ↦ (k.stand.stand other).left (image other) (e other ne)
      ]

  pub file_leaves : LeavesOnly old new (λ image. Holds image base)
  file_leaves = widened old new (λ image. Holds image base) (λ image. IsExtendedImage file end old (image file) × Elsewhere file old image) extends.any_moment (λ image h. file_holds image h.0 h.1)

  module _ (extended : IsExtended (old.seen file) (new.seen file)) where
    rests_low : (other : ℕ) → other < 2 → Rests other old new
    rests_low other is_low = extends.elsewhere other (λ is. omega (arith, is, is_low, high))

    front_same : front_in b new.seen file ≡ front_in b old.seen file
    front_same = ap (take (end_in b file)) extended.1 ∙ take-append-le (end_in b file) (old.seen file) extended.0 (k.stand.long file)

    longer_here : length (old.seen file) ≤ length (new.seen file)
    longer_here = omega (arith, ap length extended.1, length-append (old.seen file) extended.0)

    starts_new : StartsWith (new.seen file) (front_in b old.seen file)
    starts_new =
        let front = front_in b old.seen file in
        let within : length front ≤ length (old.seen file) = omega (arith, length-take (end_in b file) (old.seen file)) in
        ap (take (length front)) extended.1 ∙ take-append-le (length front) (old.seen file) extended.0 within ∙ (k.stand.stand file).read

    stands_here : Stands new file (front_in b new.seen file)
    stands_here = subst (Stands new file) (sym front_same) (record { read = starts_new; left = λ bytes left. front_kept bytes (extends.leaves bytes left) })

    stands_there : (other : ℕ) → other ≢ file → Stands new other (front_in b new.seen other)
    stands_there other ne =
        let rests = extends.elsewhere other ne in
        subst (λ (l : Bytes). Stands new other (take (end_in b other) l)) (sym rests.seen) (stands_at_rest other old new (front_in b old.seen other) rests (k.stand.stand other))

    pub file_longer : AreLonger old new
    file_longer other = elim (cases_eq other file) [
      | inl same ↦ subst (λ (n : ℕ). length (old.seen n) ≤ length (new.seen n)) (sym same) longer_here
      | inr ne ↦ let same = ap (λ (l : Bytes). length l) (extends.elsewhere other ne).seen in omega (arith, same)
    ]

    stand_longer : BlocksStand b new
    stand_longer = record {
      long = λ other. let was = k.stand.long other in let longer = file_longer other in omega (arith, was, longer);
      stand = λ other. elim (cases_eq other file) [
        | inl same ↦ subst (λ (n : ℕ). Stands new n (front_in b new.seen n)) (sym same) stands_here
        | inr ne ↦ stands_there other ne
      ];
    }

    fronts_new : (other : ℕ) → StartsWith (new.seen other) (front_in b old.seen other)
    fronts_new other = elim (cases_eq other file) [
      | inl same ↦ subst (λ (n : ℕ). StartsWith (new.seen n) (front_in b old.seen n)) (sym same) starts_new
      | inr ne ↦ subst (λ (l : Bytes). StartsWith l (front_in b old.seen other)) (sym (extends.elsewhere other ne).seen) (k.stand.stand other).read
    ]

    pub file_base : IsBaseOf log b base new
    file_base =
        let zero = rests_low 0 (omega arith) in
        let one = rests_low 1 (omega arith) in
        base_of log k.settled.0 new b base
        (now_kept log k.settled.0 old.seen new.seen (now_of log k.settled.0 old b base k k.settled.1) (keeps_same (old.seen 0) (new.seen 0) zero.seen) (keeps_same (old.seen 1) (new.seen 1) one.seen))
        (settled_by log k.settled.0 old new (rests_low log.file (log_low log b base old k)) k.settled.1) k.begun (durable_by 0 old new zero k.durable_zero) (durable_by 1 old new one k.durable_one)
        (base_gives log k.settled.0 old b base k k.settled.1)
        (record {
          table = k.table;
          stand = stand_longer;
          storable = k.storable;
          given = k.given;
          stored = stored_moved old.seen new.seen b (last_of base) (stored_messages base) k.table (same_fronts b old new.seen k.table k.stand fronts_new) k.holds.stored;
          openable = k.holds.openable;
        })
