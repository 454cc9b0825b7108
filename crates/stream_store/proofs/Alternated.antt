-- What an alternation leaves, call by call.
use Rattle.std.proofs.Common.{◌≡◌, ◌≢◌, ◌⊎◌, inl, inr, ℕ, ◌+◌, ◌<◌, ◌≤◌, Bool, true, false, cond, List, [], ◌∷◌, Option, Some, None, IfSome, length, refl, sym, ap, subst, ◌∙◌, arith}
use Rattle.std.specs.Prelude.{IsSome, ◌==◌}
use Rattle.std.proofs.lemmas.Bool.{eqb-true, le-leb, lt-leb}
use Rattle.std.proofs.lemmas.List.Elements.{All-weaker}
use Rattle.vol_disk.specs.Disk.{Disk, Files}
use Rattle.vol_disk.specs.Does.{Rests}
use Rattle.vol_disk.specs.Images.{IsDurable, IsHonest}
use Rattle.vol_disk.specs.Moments.{LeavesOnly, Elsewhere}
use Rattle.vol_disk.proofs.Moments.{joined, widened}
use Rattle.js_base.specs.Bytes.{Bytes}
use Rattle.gate_log.specs.Appending.{IsWithOrWithout, AppendsTo, IsAppended}
use Rattle.gate_log.specs.LogFile.{HasOpen}
use Rattle.gate_log.specs.LogState.{LogState, generation_of, new_log, with_batch}
use Rattle.gate_log.specs.Settled.{IsSettled}
use Rattle.gate_log.specs.Starting.{Starts, IsEmptied}
use Rattle.gate_log.proofs.OneReading.{none_shut}
use Rattle.effects.specs.declared.durable.Durable.{Durable}
use Rattle.effects.specs.declared.effect.Effect.{Effect}
use Rattle.op_records.specs.Laws.{IsBatch}
use Rattle.block_table.specs.declared.block.Block.{Block}
use Rattle.block_table.specs.Blocks.{Blocks, blocks, has_block}
use Rattle.block_table.specs.Closing.{closed}
use Rattle.block_table.specs.Tables.{IsFile, IsTable}
use Rattle.block_reading.specs.Standing.{AreStoredIn}
use Rattle.block_writing.specs.Planning.{Planned, spots_in}
use Rattle.block_writing.specs.Writing.{ChangesRuns, HasStored}
use Rattle.log_records.specs.Batches.{Begins, Gives}
use Rattle.log_records.specs.Laws.{snapshot_in}
use Rattle.log_records.specs.Unread.{stored_messages}
use Rattle.log_records.proofs.Following.{law_begins}
use Rattle.log_records.proofs.Unreading.{law_unread}
use Rattle.state_snapshot.specs.Spelling.{spelled_snapshot}
use Rattle.stream_store.specs.Alternating.{first_batch, other_file}
use Rattle.stream_store.specs.Base.{IsBaseOf}
use Rattle.stream_store.specs.Holding.{Holds, last_of, logged}
use Rattle.stream_store.specs.Logs.{LogIn, HasLog, is_first}
use Rattle.stream_store.specs.Steps.{steps_of, with_steps}
use Rattle.stream_store.proofs.Basing.{IsNow, base_gives, base_of, holds_now, now_of}
use Rattle.stream_store.proofs.Blocks.{firm_blocks, same_fronts, stored_moved}
use Rattle.stream_store.proofs.Committing.{IsPlanned, OneOfBoth, durable_by, firm_late, given_next, log_low, rests_low, settled_by, stand_new, starts, stored_base, stored_late, stored_next, table_after, used_new, writing_leaves}
use Rattle.stream_store.proofs.Unused.{behind_among}

-- ---- two files

pub other_low : (file : ℕ) → other_file file < 2
other_low file = go (file == 0)
  where
    go : (t : Bool) → cond t 1 0 < 2
    go true = omega arith
    go false = omega arith

-- each log is that of the file, or the other one
one_of_two : (file : ℕ) → file < 2 → (file ≡ 0) ⊎ (file ≡ 1)
one_of_two file low = grind arith

module _ (P : ℕ → Type 0) where
  pub for_both : (file : ℕ) → file < 2 → P file → P (other_file file) → P 0 × P 1
  for_both file low one other = go (one_of_two file low)
    where
      go : (file ≡ 0) ⊎ (file ≡ 1) → P 0 × P 1
      go (inl is) = (subst P is one, subst P (ap other_file is) other)
      go (inr is) = (subst P (ap other_file is) other, subst P is one)

pub other_apart : (file : ℕ) → file < 2 → other_file file ≢ file
other_apart file low same = go (one_of_two file low)
  where
    go : (file ≡ 0) ⊎ (file ≡ 1) → ⊥
    go (inl is) = let differs : 1 ≡ 0 = sym (ap other_file is) ∙ same ∙ is in omega (arith, differs)
    go (inr is) = let differs : 0 ≡ 1 = sym (ap other_file is) ∙ same ∙ is in omega (arith, differs)

pub high_block : (b : Blocks) (file : ℕ) → IsTable b → has_block b file ≡ true → 2 ≤ file
high_block b file table has = behind_among (blocks b) file (All-weaker (λ (k : Block). IsFile k.file) (λ k. 2 ≤ k.file) (λ k is. is.low) (blocks b) table.blocks_are.files) has

-- ---- which log is current, if the one of this file was

-- the other log has no open batch
pub with_none : (log : LogState) (batches : List Bytes) (old new : Files) (g : ℕ) → IsNow log batches old → generation_of log ≡ Some g → new log.file ≡ old log.file → (gone : LogIn) → HasLog (new (other_file log.file)) gone
    → gone.generation ≡ None → IsNow log batches new
with_none log batches old new g n gen same gone has none = go (is_first n.zero.generation n.one.generation) refl n.file_is n.generation_is n.batches_are
  where
    go : (t : Bool) → is_first n.zero.generation n.one.generation ≡ t → cond t 0 1 ≡ log.file → (cond t n.zero n.one).generation ≡ generation_of log → (cond t n.zero n.one).batches ≡ batches → IsNow log batches new
    go true e file is bs =
        let first : is_first n.zero.generation gone.generation ≡ true = ap (λ (x : Option ℕ). is_first x gone.generation) (is ∙ gen) ∙ ap (is_first (Some g)) none in
        record {
          zero = n.zero;
          one = gone;
          logs = record {
            in_zero = subst (λ (l : Bytes). HasLog l n.zero) (sym (subst (λ (f : ℕ). new f ≡ old f) (sym file) same)) n.logs.in_zero;
            in_one = subst (λ (f : ℕ). HasLog (new f) gone) (ap other_file (sym file)) has;
          };
          file_is = ap (λ (t : Bool). cond t 0 1) first ∙ file;
          generation_is = ap (λ (t : Bool). (cond t n.zero gone).generation) first ∙ is;
          batches_are = ap (λ (t : Bool). (cond t n.zero gone).batches) first ∙ bs;
        }
    go false e file is bs =
        let second : is_first gone.generation n.one.generation ≡ false = ap (λ (x : Option ℕ). is_first x n.one.generation) none ∙ ap (is_first None) (is ∙ gen) in
        record {
          zero = gone;
          one = n.one;
          logs = record {
            in_zero = subst (λ (f : ℕ). HasLog (new f) gone) (ap other_file (sym file)) has;
            in_one = subst (λ (l : Bytes). HasLog l n.one) (sym (subst (λ (f : ℕ). new f ≡ old f) (sym file) same)) n.logs.in_one;
          };
          file_is = ap (λ (t : Bool). cond t 0 1) second ∙ file;
          generation_is = ap (λ (t : Bool). (cond t gone n.one).generation) second ∙ is;
          batches_are = ap (λ (t : Bool). (cond t gone n.one).batches) second ∙ bs;
        }

-- the other log has open batches and the next generation
pub with_next : (log : LogState) (batches : List Bytes) (old new : Files) (g : ℕ) → IsNow log batches old → generation_of log ≡ Some g → new log.file ≡ old log.file
    → (next : LogState) → next.file ≡ other_file log.file → generation_of next ≡ Some (g + 1) → (more : List Bytes) → HasOpen (new (other_file log.file)) (Some (g + 1)) more → IsNow next more new
with_next log batches old new g n gen same next file_next gen_next more has = go (is_first n.zero.generation n.one.generation) refl n.file_is n.generation_is
  where
    made : LogIn
    made = record { generation = Some (g + 1); batches = more }

    go : (t : Bool) → is_first n.zero.generation n.one.generation ≡ t → cond t 0 1 ≡ log.file → (cond t n.zero n.one).generation ≡ generation_of log → IsNow next more new
    go true e file is =
        let second : is_first n.zero.generation (Some (g + 1)) ≡ false = ap (λ (x : Option ℕ). is_first x (Some (g + 1))) (is ∙ gen) ∙ lt-leb (g + 1) g (omega arith) in
        record {
          zero = n.zero;
          one = made;
          logs = record {
            in_zero = subst (λ (l : Bytes). HasLog l n.zero) (sym (subst (λ (f : ℕ). new f ≡ old f) (sym file) same)) n.logs.in_zero;
            in_one = subst (λ (f : ℕ). HasLog (new f) made) (ap other_file (sym file)) has;
          };
          file_is = ap (λ (t : Bool). cond t 0 1) second ∙ ap other_file file ∙ sym file_next;
          generation_is = ap (λ (t : Bool). (cond t n.zero made).generation) second ∙ sym gen_next;
          batches_are = ap (λ (t : Bool). (cond t n.zero made).batches) second;
        }
    go false e file is =
        let first : is_first (Some (g + 1)) n.one.generation ≡ true = ap (is_first (Some (g + 1))) (is ∙ gen) ∙ le-leb g (g + 1) (omega arith) in
        record {
          zero = made;
          one = n.one;
          logs = record {
            in_zero = subst (λ (f : ℕ). HasLog (new f) made) (ap other_file (sym file)) has;
            in_one = subst (λ (l : Bytes). HasLog l n.one) (sym (subst (λ (f : ℕ). new f ≡ old f) (sym file) same)) n.logs.in_one;
          };
          file_is = ap (λ (t : Bool). cond t 0 1) first ∙ ap other_file file ∙ sym file_next;
          generation_is = ap (λ (t : Bool). (cond t made n.one).generation) first ∙ sym gen_next;
          batches_are = ap (λ (t : Bool). (cond t made n.one).batches) first;
        }

-- both logs as they were
same_logs : (log : LogState) (batches : List Bytes) (old new : Files) → IsNow log batches old → (new 0 ≡ old 0) × (new 1 ≡ old 1) → IsNow log batches new
same_logs log batches old new n same = record {
  zero = n.zero;
  one = n.one;
  logs = record { in_zero = subst (λ (l : Bytes). HasLog l n.zero) (sym same.0) n.logs.in_zero; in_one = subst (λ (l : Bytes). HasLog l n.one) (sym same.1) n.logs.in_one };
  file_is = n.file_is;
  generation_is = n.generation_is;
  batches_are = n.batches_are;
}

-- what stands in the other file is a log
some_other : (log : LogState) (batches : List Bytes) (image : Files) → IsNow log batches image → (l : LogIn) × HasLog (image (other_file log.file)) l
some_other log batches image n = go (is_first n.zero.generation n.one.generation) n.file_is
  where
    go : (t : Bool) → cond t 0 1 ≡ log.file → (l : LogIn) × HasLog (image (other_file log.file)) l
    go true file = (n.one, subst (λ (f : ℕ). HasLog (image f) n.one) (ap other_file file) n.logs.in_one)
    go false file = (n.zero, subst (λ (f : ℕ). HasLog (image f) n.zero) (ap other_file file) n.logs.in_zero)

abbrev nothing_open : LogIn
nothing_open = record { generation = None; batches = [] }

-- ---- a base, and its log

module _ (log : LogState) (b : Blocks) (base : Durable) (old : Disk) (k : IsBaseOf log b base old) where
  abbrev batches : List Bytes
  batches = k.settled.0

  now : IsNow log batches old.seen
  now = now_of log batches old b base k k.settled.1

  gives : Gives batches (logged base b)
  gives = base_gives log batches old b base k k.settled.1

  low : log.file < 2
  low = log_low log b base old k

  pub some_other_of : (l : LogIn) × HasLog (old.seen (other_file log.file)) l
  some_other_of = some_other log batches old.seen now

  pub durable_log : (file : ℕ) → file < 2 → IsDurable old file
  durable_log file h = go (one_of_two file h)
    where
      go : (file ≡ 0) ⊎ (file ≡ 1) → IsDurable old file
      go (inl is) = subst (IsDurable old) (sym is) k.durable_zero
      go (inr is) = subst (IsDurable old) (sym is) k.durable_one

  -- ---- while the next log is started

  module _ (g : ℕ) (gen : generation_of log ≡ Some g) (image : Files) (e : Elsewhere (other_file log.file) old image) where
    log_stays : image log.file ≡ old.seen log.file
    log_stays = durable_log log.file low (image log.file) (e log.file (λ is. other_apart log.file low (sym is)))

    stored : AreStoredIn image b (last_of base) (stored_messages base)
    stored =
        let used = λ (file : ℕ) (has : has_block b file ≡ true).
        (k.stand.stand file).left (image file) (e file (λ is. let high = high_block b file k.table has in let below = other_low log.file in omega (arith, high, below, is))) in
        stored_moved old.seen image b (last_of base) (stored_messages base) k.table (same_fronts b old image k.table k.stand (starts log b base old old k image used)) k.holds.stored

    now_starting : (image (other_file log.file) ≡ old.seen (other_file log.file)) ⊎ IsEmptied (old.seen (other_file log.file)) (image (other_file log.file)) → IsNow log batches image
    now_starting (inl same) = same_logs log batches old.seen image now (for_both (λ (f : ℕ). image f ≡ old.seen f) log.file low log_stays same)
    now_starting (inr emptied) =
        let other = some_other log batches old.seen now in
        with_none log batches old.seen image g now gen log_stays nothing_open (emptied other.0.generation other.0.batches other.1) refl

    starting_holds : (image (other_file log.file) ≡ old.seen (other_file log.file)) ⊎ IsEmptied (old.seen (other_file log.file)) (image (other_file log.file)) → Holds image base
    starting_holds h = (b, holds_now log batches image b base (now_starting h) k.begun gives stored k.holds.openable)

  pub starting_keeps : (g : ℕ) → generation_of log ≡ Some g → (mid : Disk) → Starts (other_file log.file) old mid → LeavesOnly old mid (λ image. Holds image base)
  starting_keeps g gen mid s =
      widened old mid (λ image. Holds image base)
      (λ image. ((image (other_file log.file) ≡ old.seen (other_file log.file)) ⊎ IsEmptied (old.seen (other_file log.file)) (image (other_file log.file))) × Elsewhere (other_file log.file) old image)
      s.any_moment (λ image h. starting_holds g gen image h.1 h.0)

  -- ---- once no batch is open in the other log

  module _ (g : ℕ) (gen : generation_of log ≡ Some g) (mid : Disk) (s : Starts (other_file log.file) old mid) (read : HasOpen (mid.seen (other_file log.file)) None []) (firm : IsDurable mid (other_file log.file)) where
    rests_block : (file : ℕ) → has_block b file ≡ true → Rests file old mid
    rests_block file has = let high = high_block b file k.table has in let below = other_low log.file in s.elsewhere file (λ is. omega (arith, high, below, is))

    log_rests : Rests log.file old mid
    log_rests = s.elsewhere log.file (λ is. other_apart log.file low (sym is))

    now_started : IsNow log batches mid.seen
    now_started = with_none log batches old.seen mid.seen g now gen log_rests.seen nothing_open read refl

    durable_mid : IsDurable mid 0 × IsDurable mid 1
    durable_mid = for_both (IsDurable mid) log.file low (durable_by log.file old mid log_rests (durable_log log.file low)) firm

    pub shut_base : IsBaseOf log b base mid
    shut_base =
        base_of log batches mid b base now_started (settled_by log batches old mid log_rests k.settled.1) k.begun durable_mid.0 durable_mid.1 gives
        (record {
          table = k.table;
          stand = stand_new log b base old mid k rests_block;
          storable = k.storable;
          given = k.given;
          stored =
              stored_moved old.seen mid.seen b (last_of base) (stored_messages base) k.table
              (same_fronts b old mid.seen k.table k.stand (starts log b base old mid k mid.seen (used_new log b base old mid k rests_block))) k.holds.stored;
          openable = k.holds.openable;
        })

  -- it is started
  pub started_base : (g : ℕ) → generation_of log ≡ Some g → (mid : Disk) → Starts (other_file log.file) old mid → (next : LogState) (generation : ℕ) → next ≡ new_log (other_file log.file) (Some generation)
      → IsSettled next [] mid → IsBaseOf log b base mid
  started_base g gen mid s next generation next_is settled =
      let file_is : next.file ≡ other_file log.file = ap (λ (l : LogState). l.file) next_is in
      let read : HasOpen (mid.seen next.file) None [] = subst (λ (o : Option ℕ). HasOpen (mid.seen next.file) o []) (ap generation_of next_is) settled.read in
      shut_base g gen mid s (subst (λ (f : ℕ). HasOpen (mid.seen f) None []) file_is read) (subst (IsDurable mid) file_is settled.durable)

-- ---- while the first batch is written

module _ (log : LogState) (b : Blocks) (base next : Durable) (effects : List Effect) (made : Planned) (old : Disk) (w : IsPlanned log b base next effects made old)
    (mid : Disk) (changes : ChangesRuns made.runs old mid) (has : HasStored b effects made.records old mid) (honest : IsHonest mid)
    (g : ℕ) (gen : generation_of log ≡ Some g) (into : LogState) (into_is : into ≡ new_log (other_file log.file) (Some (g + 1))) (empty : IsSettled into [] old) where
  abbrev after : Blocks
  after = closed (with_steps (steps_of effects (spots_in made.records)) b)

  k : IsBaseOf log b base old
  k = w.base_is

  log_file_low : log.file < 2
  log_file_low = log_low log b base old k

  into_file : into.file ≡ other_file log.file
  into_file = ap (λ (l : LogState). l.file) into_is

  rests_into : Rests into.file old mid
  rests_into = rests_low log b base next effects made old w mid changes has into.file (subst (λ (n : ℕ). n < 2) (sym into_file) (other_low log.file))

  rests_log : Rests log.file old mid
  rests_log = rests_low log b base next effects made old w mid changes has log.file log_file_low

  pub empty_mid : IsSettled into [] mid
  empty_mid = settled_by into [] old mid rests_into empty

  now_old : IsNow log k.settled.0 old.seen
  now_old = now_of log k.settled.0 old b base k k.settled.1

  log_left : (image : Files) → Elsewhere (other_file log.file) mid image → image log.file ≡ old.seen log.file
  log_left image e =
      durable_log log b base old k log.file log_file_low (image log.file) (rests_log.leaves (image log.file) (e log.file (λ is. other_apart log.file log_file_low (sym is))))

  module _ (records : Bytes) (are : records ≡ first_batch next after) (few : IsBatch records) where
    -- the batch begins a log that gives what is next
    begins : Begins records (logged next after)
    begins =
        let same : snapshot_in (logged next after) ≡ records = ap spelled_snapshot (law_begins.unread next after) ∙ sym are in
        subst (λ (l : Bytes). Begins l (logged next after)) same
        (law_begins.begins (logged next after) (given_next log b base next effects made old w mid changes has) (record { table = table_after log b base next effects made old w mid changes has; storable = (law_unread.storable next).1 w.next_is.storable })
        (subst IsBatch (sym same) few))

    gives_next : Gives (records ∷ []) (logged next after)
    gives_next = (logged next after, begins, refl)

    gen_after : generation_of (with_batch (new_log (other_file log.file) (Some (g + 1))) (length records)) ≡ Some (g + 1)
    gen_after = go (20 + 9 + length records == 20) refl
      where
        go : (t : Bool) → (20 + 9 + length records == 20) ≡ t → cond t None (Some (g + 1)) ≡ Some (g + 1)
        go true is = absurd (omega (arith, eqb-true (20 + 9 + length records) 20 is))
        go false is = refl

    one_of_both : (image : Files) → IsWithOrWithout (g + 1) [] records (image (other_file log.file)) → Elsewhere (other_file log.file) mid image → OneOfBoth base next image
    one_of_both image (inl without) e =
        inl (
          b,
          holds_now log k.settled.0 image b base (with_none log k.settled.0 old.seen image g now_old gen (log_left image e) nothing_open (inr (none_shut (image (other_file log.file)) (g + 1) without)) refl) k.begun
              (base_gives log k.settled.0 old b base k k.settled.1)
              (stored_base log b base next effects made old w mid changes has honest image (other_file log.file) (other_low log.file) e) k.holds.openable,
        )
    one_of_both image (inr longer) e =
        let made_log = with_batch (new_log (other_file log.file) (Some (g + 1))) (length records) in
        inr (
          after,
          holds_now made_log (records ∷ []) image after next
              (with_next log k.settled.0 old.seen image g now_old gen (log_left image e) made_log refl gen_after (records ∷ []) longer) (subst IsSome (sym gen_after) refl) gives_next
              (stored_next log b base next effects made old w mid changes has honest image (other_file log.file) (other_low log.file) e) w.next_is.openable,
        )

    module _ (late : Disk) (appends : AppendsTo into records mid late) where
      pub next_leaves : LeavesOnly old late (OneOfBoth base next)
      next_leaves =
          let a = appends [] empty_mid in
          let moments = subst (λ (l : LogState). LeavesOnly mid late (λ image. IfSome l.head (λ x. IsWithOrWithout x [] records (image l.file)) × Elsewhere l.file mid image)) into_is a.any_moment in
          joined old mid late (OneOfBoth base next) (λ image. IsWithOrWithout (g + 1) [] records (image (other_file log.file)) × Elsewhere (other_file log.file) mid image)
          (writing_leaves log b base next effects made old w mid changes) moments (λ image h. one_of_both image h.0 h.1)

      elsewhere : (file : ℕ) → file ≢ other_file log.file → Rests file mid late
      elsewhere file apart = (appends [] empty_mid).elsewhere file (λ is. apart (is ∙ into_file))

      module _ (made_log : LogState) (made_is : made_log ≡ with_batch into (length records)) (appended : IsAppended into made_log records mid late) where
        settled : IsSettled made_log (records ∷ []) late
        settled = appended [] empty_mid

        made_log_is : made_log ≡ with_batch (new_log (other_file log.file) (Some (g + 1))) (length records)
        made_log_is = made_is ∙ ap (λ (l : LogState). with_batch l (length records)) into_is

        made_file : made_log.file ≡ other_file log.file
        made_file = ap (λ (l : LogState). l.file) made_log_is

        made_gen : generation_of made_log ≡ Some (g + 1)
        made_gen = ap generation_of made_log_is ∙ gen_after

        log_apart : log.file ≢ other_file log.file
        log_apart is = other_apart log.file log_file_low (sym is)

        now_late : IsNow made_log (records ∷ []) late.seen
        now_late =
            let open_log = subst (λ (f : ℕ). HasOpen (late.seen f) (Some (g + 1)) (records ∷ [])) made_file (subst (λ (o : Option ℕ). HasOpen (late.seen made_log.file) o (records ∷ [])) made_gen settled.read) in
            with_next log k.settled.0 old.seen late.seen g now_old gen ((elsewhere log.file log_apart).seen ∙ rests_log.seen) made_log made_file made_gen (records ∷ []) open_log

        durable_late : IsDurable late 0 × IsDurable late 1
        durable_late =
            for_both (IsDurable late) log.file log_file_low
            (durable_by log.file mid late (elsewhere log.file log_apart) (durable_by log.file old mid rests_log (durable_log log b base old k log.file log_file_low)))
            (subst (IsDurable late) made_file settled.durable)

        pub next_base : IsBaseOf made_log after next late
        next_base =
            base_of made_log (records ∷ []) late after next now_late settled (subst IsSome (sym made_gen) refl) durable_late.0 durable_late.1 gives_next
            (record {
              table = table_after log b base next effects made old w mid changes has;
              stand = firm_blocks after late (firm_late log b base next effects made old w mid changes has late (other_file log.file) (other_low log.file) elsewhere honest);
              storable = w.next_is.storable;
              given = given_next log b base next effects made old w mid changes has;
              stored = stored_late log b base next effects made old w mid changes has late (other_file log.file) (other_low log.file) elsewhere;
              openable = w.next_is.openable;
            })
