-- What a commit leaves, call by call.
use Rattle.std.proofs.Common.{◌≡◌, ◌≢◌, ◌⊎◌, inl, inr, ℕ, ◌+◌, ◌<◌, ◌≤◌, ◌&&◌, ◌||◌, Bool, true, false, cond, not, List, [], ◌∷◌, ◌++◌, Option, Some, None, IfSome, length, take, refl, sym, ap, subst, ◌∙◌, arith, eq-eqb, length-take, slice_index_or}
use Rattle.std.specs.Prelude.{IsSome, All, ◌==◌}
use Rattle.std.specs.Io.{StartsWith}
use Rattle.std.specs.List.{flat_map}
use Rattle.std.proofs.lemmas.Bool.{eqb-true, ne_eqb, true≢false}
use Rattle.std.proofs.lemmas.List.Elements.{All-nil, All-cons, All-head, All-tail}
use Rattle.vol_disk.specs.Disk.{Disk, Files}
use Rattle.vol_disk.specs.Does.{Rests}
use Rattle.vol_disk.specs.Clock.{IsClocked}
use Rattle.vol_disk.specs.Images.{IsDurable, IsHonest}
use Rattle.vol_disk.specs.Moments.{LeavesOnly, Elsewhere}
use Rattle.vol_disk.proofs.Moments.{joined, started, widened}
use Rattle.js_base.specs.Bytes.{Bytes}
use Rattle.js_model.specs.Lists.{Between}
use Rattle.js_model.specs.Runs.{messages_of}
use Rattle.js_model.specs.declared.stream.Message.{Message}
use Rattle.js_model.proofs.Parts.{between_bounds}
use Rattle.gate_log.specs.LogFile.{IsLog, HasOpen}
use Rattle.gate_log.specs.LogState.{LogState, generation_of, with_batch}
use Rattle.gate_log.specs.Settled.{IsSettled}
use Rattle.gate_log.specs.Appending.{IsWithOrWithout, AppendsTo}
use Rattle.effects.specs.Durables.{state_in}
use Rattle.effects.specs.declared.durable.Body.{Body}
use Rattle.effects.specs.declared.durable.Durable.{Durable}
use Rattle.effects.specs.declared.effect.Effect.{Effect}
use Rattle.durable_checks.specs.Storable.{IsStorable}
use Rattle.op_records.specs.Laws.{IsBatch}
use Rattle.op_records.specs.Spelling.{spelled_record}
use Rattle.op_records.proofs.RecordsExact.{law_records}
use Rattle.block_table.specs.declared.block.Block.{Block}
use Rattle.block_table.specs.Blocks.{Blocks, blocks, has_block, is_among}
use Rattle.block_table.specs.Placings.{placing}
use Rattle.block_table.specs.Tables.{IsFile, IsTable}
use Rattle.block_table.specs.Closing.{closed}
use Rattle.block_table.proofs.Batches.{serves_first}
use Rattle.block_table.proofs.Closing.{law_closed}
use Rattle.block_reading.specs.Standing.{AreStoredIn, IsWhole, written_in}
use Rattle.block_reading.proofs.Within.{follow_within}
use Rattle.block_writing.specs.Dropping.{AreUsedKept, ChangesUnused, is_unused}
use Rattle.block_writing.specs.Laws.{ArePlannedBy}
use Rattle.block_writing.specs.Planning.{Planned, begun, spots_in}
use Rattle.block_writing.specs.Writing.{BlocksStand, ChangesRuns, HasMessages, HasStored, IsUntouched, KeepsBlocks, end_in, front_in}
use Rattle.block_writing.specs.declared.run.Run.{Run}
use Rattle.block_writing.proofs.Commits.{end_free, law_plans}
use Rattle.message_block.specs.Standing.{Stands}
use Rattle.message_block.proofs.Standing.{stands_at_rest}
use Rattle.log_records.specs.Batches.{Adds, Gives}
use Rattle.log_records.specs.Logged.{IsLogged, Logged}
use Rattle.log_records.specs.Unread.{stored_messages}
use Rattle.log_records.proofs.Reaching.{add_push}
use Rattle.log_records.proofs.Following.{law_begins}
use Rattle.log_records.proofs.Unreading.{law_unread}
use Rattle.stream_store.specs.Holding.{Holds, last_in, last_of, logged}
use Rattle.stream_store.specs.Base.{IsBaseOf}
use Rattle.stream_store.specs.Clearing.{AreUsedLeft, IsUsed}
use Rattle.stream_store.specs.Committing.{IsNextBatch}
use Rattle.stream_store.specs.Logs.{is_first}
use Rattle.stream_store.specs.Staging.{AreBehindLogs, DropsUnused}
use Rattle.stream_store.specs.Steps.{steps_of, with_steps}
use Rattle.stream_store.proofs.Basing.{IsNow, all_hold, base_begun, base_of, base_gives, has_logs_by, holds_by, holds_now, now_of, now_with}
use Rattle.stream_store.proofs.Closing.{all_closed, stored_closed}
use Rattle.stream_store.proofs.Blocks.{IsFirm, IsSame, firm_blocks, same_fronts, stored_moved}
use Rattle.stream_store.proofs.Folding.{AreNext, goes_on_by}
use Rattle.stream_store.proofs.Recorded.{IsEnd, IsState, all_states}

-- ---- logs with an open batch

pub begun_by : (log : LogState) → IsSome (generation_of log) → generation_of log ≡ log.head
begun_by log begun = go (log.end == 20) begun
  where
    go : (b : Bool) → IsSome (cond b None log.head) → cond b None log.head ≡ log.head
    go true h = absurd (true≢false (sym h))
    go false h = refl

-- the generation stays
further : (log after : LogState) (batches : List Bytes) (disk : Disk) (count : ℕ) → IsSettled log batches disk → after ≡ with_batch log count → generation_of after ≡ log.head
further log after batches disk count settled e = ap generation_of e ∙ go (log.end + 9 + count == 20) refl
  where
    go : (b : Bool) → (log.end + 9 + count == 20) ≡ b → cond b None log.head ≡ log.head
    go true is = let sum : log.end + 9 + count ≡ 20 = eqb-true (log.end + 9 + count) 20 is in absurd (omega (arith, sum, settled.end))
    go false is = refl

-- ---- the batches with one more

pub gives_more : (batches : List Bytes) (records : Bytes) (base next : Logged) → batches ≢ [] → Gives batches base → Adds base records next → Gives (batches ++ records ∷ []) next
gives_more [] records base next some gives adds = absurd (some refl)
gives_more (first ∷ later) records base next some (begun, begins, added) adds = (begun, begins, add_push begun base next later records added adds)

pub has_some : (bytes : Bytes) (g : Option ℕ) (batches : List Bytes) → HasOpen bytes g batches → IsSome g → batches ≢ []
has_some bytes None batches h some e = absurd (true≢false (sym some))
has_some bytes (Some g) [] h some e = absurd h
has_some bytes (Some g) (b ∷ bs) h some e = absurd (cc)

-- a log of open batches is read as these
pub opens : (bytes : Bytes) (g : ℕ) (batches : List Bytes) → batches ≢ [] → IsLog g batches bytes → HasOpen bytes (Some g) batches
opens bytes g [] some h = absurd (some refl)
opens bytes g (b ∷ bs) some h = h

pub pushed_some : (batches : List Bytes) (records : Bytes) → batches ++ records ∷ [] ≢ []
pushed_some [] records e = absurd (cc)
pushed_some (b ∷ bs) records e = absurd (cc)

-- ---- where nothing was written

-- a crash leaves the base, or what the changes make of it
abbrev pub OneOfBoth : Durable → Durable → Files → Type 0
OneOfBoth base next image = Holds image base ⊎ Holds image next

pub commits_nothing : (log : LogState) (b : Blocks) (base next : Durable) (old : Disk) → IsBaseOf log b base old → IsClocked old → LeavesOnly old old (OneOfBoth base next)
commits_nothing log b base next old k clocked = started old (OneOfBoth base next) clocked (λ image is. inl (k.images image is))

-- ---- files that rest

pub durable_by : (file : ℕ) (old new : Disk) → Rests file old new → IsDurable old file → IsDurable new file
durable_by file old new r h bytes left = h bytes (r.leaves bytes left) ∙ sym r.seen

pub settled_by : (log : LogState) (batches : List Bytes) (old new : Disk) → Rests log.file old new → IsSettled log batches old → IsSettled log batches new
settled_by log batches old new r s = record {
  read = subst (λ (l : Bytes). HasOpen l (generation_of log) batches) (sym r.seen) s.read;
  head = subst (λ (l : Bytes). IfSome log.head (λ generation. IsLog generation batches l)) (sym r.seen) s.head;
  first_end = s.first_end;
  end = s.end;
  durable = durable_by log.file old new r s.durable;
}

firm_by : (k : Block) (old new : Disk) → Rests k.file old new → IsFirm old k → IsFirm new k
firm_by k old new r h = record {
  long = subst (λ (l : Bytes). k.end ≤ length l) (sym r.seen) h.long;
  left = λ bytes is. h.left bytes (r.leaves bytes is) ∙ ap (take k.end) (sym r.seen);
}

-- the current log is one of the first two files
pub log_low : (log : LogState) (b : Blocks) (base : Durable) (disk : Disk) → IsBaseOf log b base disk → log.file < 2
log_low log b base disk k = go (is_first k.holds.zero.generation k.holds.one.generation) (k.current k.holds.zero k.holds.one k.holds.logs)
  where
    go : (t : Bool) → cond t 0 1 ≡ log.file → log.file < 2
    go true e = omega (arith, e)
    go false e = omega (arith, e)

-- ---- the messages of a base are not above its last

below_in : (low last : ℕ) (ms : List Message) → Between (λ m. m.seq) low (last + 1) ms → All (λ m. m.seq ≤ last) ms
below_in low last [] h = All-nil (λ (m : Message). m.seq ≤ last)
below_in low last (m ∷ ms) h =
    let bound = between_bounds (λ (m : Message). m.seq) (m.seq + 1) (last + 1) ms h.1 in
    All-cons (λ (m : Message). m.seq ≤ last) m ms (omega (arith, bound)) (below_in (m.seq + 1) last ms h.1)

below_of : (d : Durable) → IsStorable d → All (λ m. m.seq ≤ last_of d) (stored_messages d)
below_of d h = go d.body h
  where
    go : (o : Option Body) → IsStorable (record { incarnation = d.incarnation; body = o }) → All (λ m. m.seq ≤ last_in o) (messages_of (state_in d.incarnation o))
    go None h = All-nil (λ (m : Message). m.seq ≤ 0)
    go (Some body) h = below_in 1 body.last body.messages h.stored.messages

-- two images that begin as a third one
same_both : (x y z : Files) (ks : List Block) → All (IsSame z x) ks → All (IsSame z y) ks → All (IsSame y x) ks
same_both x y z ks h k = λ i d within. h i d within ∙ sym (k i d within)

-- ---- a commit whose messages are written

pub record IsPlanned (log : LogState) (b : Blocks) (base next : Durable) (effects : List Effect) (made : Planned) (old : Disk) : Type 0 where
  pub base_is : IsBaseOf log b base old
  pub next_is : IsNextBatch base effects next
  pub planned : ArePlannedBy b effects made

module _ (log : LogState) (b : Blocks) (base next : Durable) (effects : List Effect) (made : Planned) (old : Disk) (w : IsPlanned log b base next effects made old) where
  keeps_base : (image : Files) → KeepsBlocks b old image → Holds image base
  keeps_base image h =
      let k = w.base_is in
      (b, holds_by old.seen image b base k.table (k.durable_zero (image 0) (h.logs 0 (omega arith))) (k.durable_one (image 1) (h.logs 1 (omega arith))) (same_fronts b old image k.table k.stand h.blocks) (base_begun log old b base k) k.holds)

  -- while the runs are written
  pub writing_leaves : (mid : Disk) → ChangesRuns made.runs old mid → LeavesOnly old mid (OneOfBoth base next)
  writing_leaves mid changes =
      widened old mid (OneOfBoth base next) (KeepsBlocks b old) (law_plans.kept b effects made old mid w.planned w.base_is.stand changes) (λ image h. inl (keeps_base image h))

  -- where the messages lie with them, and at the end of the batch
  abbrev with_all : Blocks
  with_all = with_steps (steps_of effects (spots_in made.records)) b

  abbrev after : Blocks
  after = closed with_all

  next_records : AreNext b effects (placing b) made.records made.placing
  next_records =
      let g = goes_on_by b effects (begun b) made w.planned.made_is in
      subst (λ l. AreNext b effects (placing b) l made.placing) (sym g.records) g.next

  untouched : (file : ℕ) → file < 2 → IsUntouched made.runs file
  untouched file low = all made.runs (law_plans.runs b effects made w.planned).files
    where
      all : (runs : List Run) → All (λ run. 2 ≤ run.file) runs → All (λ run. run.file ≢ file) runs
      all [] h = All-nil (λ (run : Run). run.file ≢ file)
      all (run ∷ runs) h =
          let high = All-head (λ (run : Run). 2 ≤ run.file) run runs h in
          All-cons (λ (run : Run). run.file ≢ file) run runs (λ is. omega (arith, high, is, low)) (all runs (All-tail (λ (run : Run). 2 ≤ run.file) run runs h))

  module _ (mid : Disk) (changes : ChangesRuns made.runs old mid) (has : HasStored b effects made.records old mid) where
    -- what holds of an image with the messages, before them
    first_state : (x : Files) → HasMessages b effects made.records old x → IsState x mid.seen b (placing b) base b
    first_state x h =
        let k = w.base_is in
        let same = same_fronts b old x k.table k.stand h.blocks in
        record {
          stored = stored_moved old.seen x b (last_of base) (stored_messages base) k.table same k.holds.stored;
          below = below_of base k.storable;
          same = same_both x mid.seen old.seen (blocks b) same (same_fronts b old mid.seen k.table k.stand has.read.blocks);
          table = k.table;
          serves = serves_first b;
        }

    -- and behind them
    end_of : (x : Files) → HasMessages b effects made.records old x → IsEnd x mid.seen b made.placing made.records base next b with_all
    end_of x h =
        all_states x mid.seen b effects (placing b) made.records made.placing base next b (first_state x h) next_records w.planned.allowed w.next_is.folded h.messages has.read.messages

    here : IsEnd mid.seen mid.seen b made.placing made.records base next b with_all
    here = end_of mid.seen has.read

    pub table_after : IsTable after
    table_after = law_closed.table with_all here.state.table

    adds : (records : Bytes) → records ≡ flat_map spelled_record made.records → IsBatch records → Adds (logged base b) records (logged next after)
    adds records are few = record {
      records = made.records;
      stand = (law_records records made.records few).1 (record { allowed = here.stand; bytes_are = are });
      made = logged next with_all;
      folded = here.folded;
      new_is = refl;
      storable = (law_unread.storable next).1 w.next_is.storable;
    }

    -- ---- on the disk

    pub rests_low : (file : ℕ) → file < 2 → Rests file old mid
    rests_low file low = changes.elsewhere file (untouched file low)

    pub settled_mid : (batches : List Bytes) → IsSettled log batches old → IsSettled log batches mid
    settled_mid batches s = settled_by log batches old mid (rests_low log.file (log_low log b base old w.base_is)) s

    -- an image that has this of one file, and else what is read
    abbrev with_file : ℕ → Bytes → Files
    with_file file bytes = λ f. cond (f == file) bytes (mid.seen f)

    left_with : IsHonest mid → (file : ℕ) (bytes : Bytes) → mid.leaves file bytes → (f : ℕ) → mid.leaves f (with_file file bytes f)
    left_with honest file bytes left f = go (f == file) refl
      where
        go : (t : Bool) → (f == file) ≡ t → mid.leaves f (cond t bytes (mid.seen f))
        go true e = subst (λ (n : ℕ). mid.leaves n bytes) (sym (eqb-true f file e)) left
        go false e = honest f

    firm_all : IsHonest mid → All (IsFirm mid) (blocks with_all)
    firm_all honest = λ i d within.
        let k = slice_index_or (blocks with_all) i d in
        let whole : IsWhole mid.seen (last_of next) k = here.state.stored.whole i d within in
        let long = follow_within (written_in mid.seen k) whole.messages 0 k.end whole.few (omega arith) whole.stand.follow in
        record {
          long = omega (arith, long, length-take k.end (mid.seen k.file));
          left = λ bytes is.
              let x = with_file k.file bytes in
              let same : take k.end (x k.file) ≡ take k.end (mid.seen k.file) = (end_of x (has.left x (left_with honest k.file bytes is))).state.same i d within in
              ap (λ (t : Bool). take k.end (cond t bytes (mid.seen k.file))) (sym (eq-eqb k.file k.file refl)) ∙ same;
        }

    firm_mid : IsHonest mid → All (IsFirm mid) (blocks after)
    firm_mid honest = all_closed (IsFirm mid) with_all (firm_all honest)

    -- ---- while the batch is appended

    module _ (honest : IsHonest mid) (image : Files) (file : ℕ) (low : file < 2) (e : Elsewhere file mid image) where
      -- the same with the log as it reads
      abbrev without_log : Files
      without_log = λ f. cond (f == file) (mid.seen f) (image f)

      left_without : (f : ℕ) → mid.leaves f (without_log f)
      left_without f = go (f == file) refl
        where
          go : (t : Bool) → (f == file) ≡ t → mid.leaves f (cond t (mid.seen f) (image f))
          go true is = honest f
          go false is = e f (λ same. true≢false (sym (eq-eqb f file same) ∙ is))

      -- no block is the log
      same_blocks : (c : Blocks) → IsTable c → All (IsSame without_log image) (blocks c)
      same_blocks c table = λ i d within.
          let k = slice_index_or (blocks c) i d in
          let block : IsFile k.file = table.blocks_are.files i d within in
          let apart : (k.file == file) ≡ false = ne_eqb k.file file (λ is. omega (arith, is, block.low, low)) in
          ap (λ (t : Bool). take k.end (cond t (mid.seen k.file) (image k.file))) (sym apart)

      pub stored_base : AreStoredIn image b (last_of base) (stored_messages base)
      stored_base =
          stored_moved without_log image b (last_of base) (stored_messages base) w.base_is.table (same_blocks b w.base_is.table) (first_state without_log (has.left without_log left_without)).stored

      pub stored_next : AreStoredIn image after (last_of next) (stored_messages next)
      stored_next =
          stored_closed image with_all (last_of next) (stored_messages next)
          (stored_moved without_log image with_all (last_of next) (stored_messages next) here.state.table (same_blocks with_all here.state.table) (end_of without_log (has.left without_log left_without)).state.stored)

    -- ---- once a file of a log is written, and no other

    module _ (late : Disk) (file : ℕ) (low : file < 2) (elsewhere : (other : ℕ) → other ≢ file → Rests other mid late) where
      pub firm_late : IsHonest mid → All (IsFirm late) (blocks after)
      firm_late honest = λ i d within.
          let k = slice_index_or (blocks after) i d in
          let block : IsFile k.file = table_after.blocks_are.files i d within in
          firm_by k mid late (elsewhere k.file (λ is. omega (arith, is, block.low, low))) (firm_mid honest i d within)

      pub stored_late : AreStoredIn late.seen after (last_of next) (stored_messages next)
      stored_late =
          stored_closed late.seen with_all (last_of next) (stored_messages next)
          (stored_moved mid.seen late.seen with_all (last_of next) (stored_messages next) here.state.table
          (λ i d within.
          let k = slice_index_or (blocks with_all) i d in
          let block : IsFile k.file = here.state.table.blocks_are.files i d within in
          ap (take k.end) (elsewhere k.file (λ is. omega (arith, is, block.low, low))).seen) here.state.stored)

    log_is_low : log.file < 2
    log_is_low = log_low log b base old w.base_is

    -- what is told then
    pub given_next : IsLogged (logged next after)
    given_next = law_begins.closed (logged next with_all) (law_begins.logged made.records (logged base b) (logged next with_all) here.stand here.folded w.base_is.given)

    abbrev batches : List Bytes
    batches = w.base_is.settled.0

    now : IsNow log batches old.seen
    now = now_of log batches old b base w.base_is w.base_is.settled.1

    gives : Gives batches (logged base b)
    gives = base_gives log batches old b base w.base_is w.base_is.settled.1

    some : batches ≢ []
    some = has_some (old.seen log.file) (generation_of log) batches w.base_is.settled.1.read w.base_is.begun

    -- the other log is as it was
    other_log : (image : Files) → Elsewhere log.file mid image → (other : ℕ) → other ≢ log.file → (other ≡ 0) ⊎ (other ≡ 1) → image other ≡ old.seen other
    other_log image e other apart (inl is) =
        subst (λ (n : ℕ). image n ≡ old.seen n) (sym is) (w.base_is.durable_zero (image 0) ((rests_low 0 (omega arith)).leaves (image 0) (subst (λ (n : ℕ). mid.leaves n (image n)) is (e other apart))))
    other_log image e other apart (inr is) =
        subst (λ (n : ℕ). image n ≡ old.seen n) (sym is) (w.base_is.durable_one (image 1) ((rests_low 1 (omega arith)).leaves (image 1) (subst (λ (n : ℕ). mid.leaves n (image n)) is (e other apart))))

    module _ (honest : IsHonest mid) (records : Bytes) (are : records ≡ flat_map spelled_record made.records) (few : IsBatch records) where
      one_of_both : (g : ℕ) → log.head ≡ Some g → (image : Files) → IsWithOrWithout g batches records (image log.file) → Elsewhere log.file mid image → OneOfBoth base next image
      one_of_both g head image (inl without) e =
          let open_log = subst (λ (o : Option ℕ). HasOpen (image log.file) o batches) (sym (begun_by log w.base_is.begun ∙ head)) (opens (image log.file) g batches some without) in
          inl (b, holds_now log batches image b base (now_with log batches batches old.seen image now open_log (other_log image e)) w.base_is.begun gives (stored_base honest image log.file log_is_low e) w.base_is.holds.openable)
      one_of_both g head image (inr longer) e =
          let more = batches ++ records ∷ [] in
          let open_log = subst (λ (o : Option ℕ). HasOpen (image log.file) o more) (sym (begun_by log w.base_is.begun ∙ head)) (opens (image log.file) g more (pushed_some batches records) longer) in
          inr (
            after,
            holds_now log more image after next (now_with log batches more old.seen image now open_log (other_log image e)) w.base_is.begun
                (gives_more batches records (logged base b) (logged next after) some gives (adds records are few)) (stored_next honest image log.file log_is_low e) w.next_is.openable,
          )

      by_head : (head : Option ℕ) → log.head ≡ head → (image : Files) → IfSome head (λ g. IsWithOrWithout g batches records (image log.file)) → Elsewhere log.file mid image → OneOfBoth base next image
      by_head None e image h other = absurd (true≢false (sym (subst IsSome (begun_by log w.base_is.begun ∙ e) w.base_is.begun)))
      by_head (Some g) e image h other = one_of_both g e image h other

      pub appending_leaves : (late : Disk) → AppendsTo log records mid late → LeavesOnly mid late (OneOfBoth base next)
      appending_leaves late appends =
          let a = appends batches (settled_mid batches w.base_is.settled.1) in
          widened mid late (OneOfBoth base next) (λ image. IfSome log.head (λ g. IsWithOrWithout g batches records (image log.file)) × Elsewhere log.file mid image) a.any_moment
          (λ image h. by_head log.head refl image h.0 h.1)

      -- up to the end of the append
      pub commits : (late : Disk) → AppendsTo log records mid late → LeavesOnly old late (OneOfBoth base next)
      commits late appends = joined old mid late (OneOfBoth base next) (OneOfBoth base next) (writing_leaves mid changes) (appending_leaves late appends) (λ image h. h)

      -- ---- once the batch is appended

      module _ (late : Disk) (appends : AppendsTo log records mid late) (log_after : LogState) (log_is : log_after ≡ with_batch log (length records))
          (settled : IsSettled log_after (batches ++ records ∷ []) late) where
        elsewhere : (other : ℕ) → other ≢ log.file → Rests other mid late
        elsewhere = (appends batches (settled_mid batches w.base_is.settled.1)).elsewhere

        log_file : log_after.file ≡ log.file
        log_file = ap (λ (l : LogState). l.file) log_is

        generation_same : generation_of log_after ≡ generation_of log
        generation_same = further log log_after batches old (length records) w.base_is.settled.1 log_is ∙ sym (begun_by log w.base_is.begun)

        both_durable : (file : ℕ) → file < 2 → IsDurable old file → IsDurable late file
        both_durable file low durable = go (file == log.file) refl
          where
            go : (t : Bool) → (file == log.file) ≡ t → IsDurable late file
            go true e = subst (IsDurable late) (log_file ∙ sym (eqb-true file log.file e)) settled.durable
            go false e = durable_by file mid late (elsewhere file (λ same. true≢false (sym (eq-eqb file log.file same) ∙ e))) (durable_by file old mid (rests_low file low) durable)

        seen_other : (other : ℕ) → other ≢ log.file → (other ≡ 0) ⊎ (other ≡ 1) → late.seen other ≡ old.seen other
        seen_other other apart (inl is) = (elsewhere other apart).seen ∙ (rests_low other (omega (arith, is))).seen
        seen_other other apart (inr is) = (elsewhere other apart).seen ∙ (rests_low other (omega (arith, is))).seen

        now_late : IsNow log_after (batches ++ records ∷ []) late.seen
        now_late =
            let more = batches ++ records ∷ [] in
            let open_log : HasOpen (late.seen log.file) (generation_of log) more =
            subst (λ (f : ℕ). HasOpen (late.seen f) (generation_of log) more) log_file (subst (λ (g : Option ℕ). HasOpen (late.seen log_after.file) g more) generation_same settled.read) in
            let there = now_with log batches more old.seen late.seen now open_log seen_other in
            record {
              zero = there.zero;
              one = there.one;
              logs = there.logs;
              file_is = there.file_is ∙ sym log_file;
              generation_is = there.generation_is ∙ sym generation_same;
              batches_are = there.batches_are;
            }

        pub base_late : IsBaseOf log_after after next late
        base_late =
            base_of log_after (batches ++ records ∷ []) late after next now_late settled (subst IsSome (sym generation_same) w.base_is.begun)
            (both_durable 0 (omega arith) w.base_is.durable_zero) (both_durable 1 (omega arith) w.base_is.durable_one)
            (gives_more batches records (logged base b) (logged next after) some gives (adds records are few))
            (record { table = table_after; stand = firm_blocks after late (firm_late late log.file log_is_low elsewhere honest); storable = w.next_is.storable; given = given_next; stored = stored_late late log.file log_is_low elsewhere; openable = w.next_is.openable })

-- a file in which no block is begins with nothing
starts_none : (b : Blocks) (image seen : Files) (file : ℕ) → has_block b file ≡ false → StartsWith (image file) (front_in b seen file)
starts_none b image seen file none = subst (λ (n : ℕ). StartsWith (image file) (take n (seen file))) (sym (end_free b file none)) refl

-- ---- while no log and no block is touched

module _ (log : LogState) (b : Blocks) (d : Durable) (old new : Disk) (k : IsBaseOf log b d old) where
  pub starts : (image : Files) → ((file : ℕ) → has_block b file ≡ true → StartsWith (image file) (front_in b old.seen file)) → (file : ℕ) → StartsWith (image file) (front_in b old.seen file)
  starts image used file = go (has_block b file) refl
    where
      go : (t : Bool) → has_block b file ≡ t → StartsWith (image file) (front_in b old.seen file)
      go true e = used file e
      go false e = starts_none b image old.seen file e

  pub spared_leaves : LeavesOnly old new (AreUsedLeft (IsUsed b) old) → LeavesOnly old new (λ image. Holds image d)
  spared_leaves leaves = widened old new (λ image. Holds image d) (AreUsedLeft (IsUsed b) old) leaves (λ image h.
      let used = λ (file : ℕ) (has : has_block b file ≡ true). (k.stand.stand file).left (image file) (h file (inr has)) in (
        b,
        holds_by old.seen image b d k.table (k.durable_zero (image 0) (h 0 (inl (omega arith)))) (k.durable_one (image 1) (h 1 (inl (omega arith))))
            (same_fronts b old image k.table k.stand (starts image used)) (base_begun log old b d k) k.holds,
      ))

  module _ (rests_block : (file : ℕ) → has_block b file ≡ true → Rests file old new) where
    pub stand_new : BlocksStand b new
    stand_new = record { long = long; stand = stand }
      where
        long : (file : ℕ) → end_in b file ≤ length (new.seen file)
        long file = go (has_block b file) refl
          where
            go : (t : Bool) → has_block b file ≡ t → end_in b file ≤ length (new.seen file)
            go true e = subst (λ (l : Bytes). end_in b file ≤ length l) (sym (rests_block file e).seen) (k.stand.long file)
            go false e = omega (arith, end_free b file e)

        stand : (file : ℕ) → Stands new file (front_in b new.seen file)
        stand file = go (has_block b file) refl
          where
            go : (t : Bool) → has_block b file ≡ t → Stands new file (front_in b new.seen file)
            go true e =
                subst (λ (l : Bytes). Stands new file (take (end_in b file) l)) (sym (rests_block file e).seen)
                (stands_at_rest file old new (front_in b old.seen file) (rests_block file e) (k.stand.stand file))
            go false e = record { read = starts_none b new.seen new.seen file e; left = λ bytes is. starts_none b (λ f. bytes) new.seen file e }

    pub used_new : (file : ℕ) → has_block b file ≡ true → StartsWith (new.seen file) (front_in b old.seen file)
    used_new file has = subst (λ (l : Bytes). StartsWith l (front_in b old.seen file)) (sym (rests_block file has).seen) (k.stand.stand file).read

  module _ (spared : (file : ℕ) → IsUsed b file → Rests file old new) where
    rests_log : (file : ℕ) → file < 2 → Rests file old new
    rests_log file low = spared file (inl low)

    rests_block : (file : ℕ) → has_block b file ≡ true → Rests file old new
    rests_block file has = spared file (inr has)

    pub base_spared : IsBaseOf log b d new
    base_spared =
        let zero = rests_log 0 (omega arith) in
        let one = rests_log 1 (omega arith) in
        let durable_zero = durable_by 0 old new zero k.durable_zero in
        let durable_one = durable_by 1 old new one k.durable_one in
        let used = used_new rests_block in
        let stands = stand_new rests_block in
        let holds = holds_by old.seen new.seen b d k.table zero.seen one.seen (same_fronts b old new.seen k.table k.stand (starts new.seen used)) (base_begun log old b d k) k.holds in
        record {
          settled = (k.settled.0, settled_by log k.settled.0 old new (rests_log log.file (log_low log b d old k)) k.settled.1);
          begun = k.begun;
          current = λ zero_log one_log logs. k.current zero_log one_log (has_logs_by new.seen old.seen zero_log one_log (sym zero.seen) (sym one.seen) logs);
          durable_zero = durable_zero;
          durable_one = durable_one;
          table = k.table;
          stand = stands;
          storable = k.storable;
          given = k.given;
          holds = holds;
          images =
              all_hold new b d durable_zero durable_one k.table stands
              (λ zero_log one_log logs. base_begun log old b d k zero_log one_log (has_logs_by new.seen old.seen zero_log one_log (sym zero.seen) (sym one.seen) logs)) holds;
        }

-- ---- while unused blocks are dropped

pub drops_nothing : (b : Blocks) (disk : Disk) → IsClocked disk → DropsUnused b disk disk
drops_nothing b disk clocked = record {
  ks = [];
  behind_logs = All-nil (λ (k : Block). 2 ≤ k.file);
  changes = record {
    elsewhere = λ file unused. record { seen = refl; leaves = λ bytes left. left };
    any_moment = started disk (AreUsedKept b [] disk) clocked (λ image is file unused. is.left file);
  };
}

-- no log and no block is among them
pub kept_used : (b : Blocks) (ks : List Block) (file : ℕ) → AreBehindLogs ks → IsUsed b file → is_unused b ks file ≡ false
kept_used b ks file behind (inl low) = ap (λ (t : Bool). t && not (has_block b file)) (none ks behind)
  where
    none : (ks : List Block) → AreBehindLogs ks → is_among ks file ≡ false
    none [] h = refl
    none (k ∷ ks) h =
        let high = All-head (λ (k : Block). 2 ≤ k.file) k ks h in
        ap (λ (t : Bool). t || is_among ks file) (ne_eqb k.file file (λ is. omega (arith, high, is, low))) ∙ none ks (All-tail (λ (k : Block). 2 ≤ k.file) k ks h)
kept_used b ks file behind (inr has) = go (is_among ks file)
  where
    go : (t : Bool) → (t && not (has_block b file)) ≡ false
    go true = ap not has
    go false = refl

module _ (log : LogState) (b : Blocks) (d : Durable) (old new : Disk) (ks : List Block) (k : IsBaseOf log b d old) (behind : AreBehindLogs ks) (changes : ChangesUnused b ks old new) where
  pub dropping_leaves : LeavesOnly old new (λ image. Holds image d)
  dropping_leaves =
      spared_leaves log b d old new k (widened old new (AreUsedLeft (IsUsed b) old) (AreUsedKept b ks old) changes.any_moment (λ image h file is. h file (kept_used b ks file behind is)))

  pub base_dropped : IsBaseOf log b d new
  base_dropped = base_spared log b d old new k (λ file is. changes.elsewhere file (kept_used b ks file behind is))
