-- What the runs of a commit leave of the blocks and the logs of a volume.
use Rattle.std.proofs.Common.{◌≡◌, ◌≢◌, ◌≤◌, ◌<◌, ◌⊎◌, ◌^◌, inl, inr, ℕ, ◌+◌, ◌-◌, ◌==◌, ◌&&◌, ◌||◌, Bool, true, false, cond, List, [], ◌∷◌, ◌++◌, Option, Some, None, Ok, All, IsTrue, length, take, drop, find, option_map, unwrap_or, refl, sym, ap, subst, ◌∙◌, arith, length-take, length-drop, length-append, one-add}
use Rattle.std.specs.Io.{StartsWith}
use Rattle.std.specs.List.{AllZip, list_all, list_any}
use Rattle.std.specs.Option.{option_to_list}
use Rattle.std.proofs.lemmas.Bool.{true≢false, or_cases, or_parts, and_parts, eqb-true, eq-eqb, not-true}
use Rattle.std.proofs.lemmas.List.Elements.{All-head, All-tail, All-take, All-drop, All-weaker}
use Rattle.js_base.specs.Bytes.{Bytes}
use Rattle.js_base.specs.declared.spot.Spot.{Spot}
use Rattle.js_model.specs.declared.stream.Message.{Message}
use Rattle.effects.specs.declared.effect.Effect.{Effect}
use Rattle.effects.specs.declared.effect.Effect.TheVariants.{MakeStream, ChangeStream, DropStream, PutHere, Skip, Remove, MakeConsumer, DropConsumer, Deliver, Acked, Due, GivenUp, Now}
use Rattle.op_records.specs.Allowed.{is_record}
use Rattle.op_records.specs.Blocks.{is_block_message, spelled_message, message_at}
use Rattle.op_records.specs.Laws.{IsBatch}
use Rattle.op_records.specs.declared.record.Record.{Record}
use Rattle.op_records.specs.declared.record.Record.TheVariants.{Put, Change}
use Rattle.op_records.proofs.BlockSizes.{spelled_size}
use Rattle.op_records.proofs.BlocksLaws.{law_message}
use Rattle.vol_disk.specs.Disk.{Disk, Files}
use Rattle.vol_disk.specs.Images.{AreBytes}
use Rattle.vol_disk.specs.Moments.{LeavesOnly}
use Rattle.vol_disk.proofs.Moments.{widened}
use Rattle.message_block.specs.Standing.{Stands}
use Rattle.message_block.proofs.Standing.{spot_among}
use Rattle.block_table.specs.declared.block.Block.{Block}
use Rattle.block_table.specs.declared.placing.Placing.{Placing}
use Rattle.block_table.specs.Blocks.{Blocks, blocks, has_block, is_among}
use Rattle.block_table.specs.Closing.{closed, is_left, written_on}
use Rattle.block_table.specs.Placings.{place}
use Rattle.block_table.specs.Puts.{end_of, goes_on, begins}
use Rattle.block_table.specs.Tables.{IsTable, AreApart as ApartBlocks}
use Rattle.block_table.proofs.Apart.{apart_last}
use Rattle.block_reading.specs.Standing.{StandsAt, bytes_at}
use Rattle.block_writing.specs.declared.run.Run.{Run}
use Rattle.block_writing.specs.Planning.{Planned, message_by, with_message}
use Rattle.block_writing.specs.Runs.{IsPlaced, HasAt, SomeRun, LiesIn, IsStoredBy, AreStoredBy, spot_of}
use Rattle.block_writing.specs.Writing.{AreWithin, end_in, front_in, BlocksStand, IsUntouched, AreKept, ChangesRuns, HasMessages, HasStored, IsWritten, KeepsBlocks}
use Rattle.block_writing.specs.Laws.{ArePlannedBy, AreRuns, LawPlans}
use Rattle.block_writing.proofs.Runs.{put_allowed, runs_of, sound_of, spot_is, within_put}

-- ---- how far a file is written

find_last : (t : Block → Bool) (xs : List Block) (k : Block) → list_any t xs ≡ false → t k ≡ true → find t (xs ++ k ∷ []) ≡ Some k
find_last t [] k none is = ap (λ (c : Bool). cond c (Some k) (find t [])) is
find_last t (x ∷ xs) k none is =
    let parts = or_parts (t x) (list_any t xs) none in
    ap (λ (c : Bool). cond c (Some x) (find t (xs ++ k ∷ []))) parts.0 ∙ find_last t xs k parts.1 is

find_none : (t : Block → Bool) (xs : List Block) → list_any t xs ≡ false → find t xs ≡ None
find_none t [] none = refl
find_none t (x ∷ xs) none =
    let parts = or_parts (t x) (list_any t xs) none in
    ap (λ (c : Bool). cond c (Some x) (find t xs)) parts.0 ∙ find_none t xs parts.1

abbrev end_of_found : Option Block → ℕ
end_of_found o = unwrap_or (option_map (λ k. k.end) o) 0

-- that of the block being written
pub end_written : (b : Blocks) (k : Block) → IsTable b → b.writing ≡ Some k → end_in b k.file ≡ k.end
end_written b k table is =
    ap (λ (o : Option Block). end_of_found (find (λ (x : Block). x.file == k.file) (b.older ++ option_to_list o))) is
    ∙ ap end_of_found (find_last (λ (x : Block). x.file == k.file) b.older k
    (apart_last b.older k (subst (λ (o : Option Block). ApartBlocks (b.older ++ option_to_list o)) is table.blocks_are.apart)) (eq-eqb k.file k.file refl))

-- and of a file that is no block
pub end_free : (b : Blocks) (file : ℕ) → has_block b file ≡ false → end_in b file ≡ 0
end_free b file free = ap end_of_found (find_none (λ (x : Block). x.file == file) (blocks b) free)

-- a run begins where its file ends
pub end_placed : (b : Blocks) (run : Run) → IsTable b → IsPlaced b run → end_in b run.file ≡ run.at
end_placed b run table placed = go (or_cases (goes_on (spot_of run) b.writing) (begins (spot_of run) b) placed)
  where
    on : (w : Option Block) → b.writing ≡ w → goes_on (spot_of run) w ≡ true → end_in b run.file ≡ run.at
    on None is h = absurd (true≢false (sym h))
    on (Some k) is h =
        let parts = and_parts (run.file == k.file) (run.at == k.end) h in
        ap (end_in b) (eqb-true run.file k.file parts.0) ∙ end_written b k table is ∙ sym (eqb-true run.at k.end parts.1)

    go : (goes_on (spot_of run) b.writing ≡ true) ⊎ (begins (spot_of run) b ≡ true) → end_in b run.file ≡ run.at
    go (inl h) = on b.writing refl h
    go (inr h) =
        let free = and_parts _ _ h in
        let high = and_parts _ _ free.0 in
        let low = and_parts _ _ high.0 in
        end_free b run.file (not-true (has_block b run.file) free.1) ∙ sym (eqb-true run.at 0 low.0)

-- ---- behind a batch

-- a block that is not written any more, or the same one
find_less : (t : Block → Bool) (xs : List Block) (k : Block) → (find t (xs ++ []) ≡ find t (xs ++ k ∷ [])) ⊎ (find t (xs ++ []) ≡ None)
find_less t [] k = inr refl
find_less t (x ∷ xs) k = go (t x) (find_less t xs k)
  where
    go : (c : Bool) → (find t (xs ++ []) ≡ find t (xs ++ k ∷ [])) ⊎ (find t (xs ++ []) ≡ None)
        → (cond c (Some x) (find t (xs ++ [])) ≡ cond c (Some x) (find t (xs ++ k ∷ []))) ⊎ (cond c (Some x) (find t (xs ++ [])) ≡ None)
    go true rest = inl refl
    go false rest = rest

ends_closed : (b : Blocks) (file : ℕ) → (end_in (closed b) file ≡ end_in b file) ⊎ (end_in (closed b) file ≡ 0)
ends_closed b file = go b.writing
  where
    ends : Option Block → ℕ
    ends w = end_of_found (find (λ (k : Block). k.file == file) (b.older ++ option_to_list w))

    left : (k : Block) (c : Bool) → (ends (cond c None (Some k)) ≡ ends (Some k)) ⊎ (ends (cond c None (Some k)) ≡ 0)
    left k false = inl refl
    left k true = elim (find_less (λ (x : Block). x.file == file) b.older k) [
      | inl is ↦ inl (ap end_of_found is)
      | inr none ↦ inr (ap end_of_found none)
    ]

    go : (w : Option Block) → (ends (written_on b.placed w) ≡ ends w) ⊎ (ends (written_on b.placed w) ≡ 0)
    go None = inl refl
    go (Some k) = left k (is_left b.placed k)

pub closed_of : (b : Blocks) (disk : Disk) → BlocksStand b disk → BlocksStand (closed b) disk
closed_of b disk stand = record { long = long; stand = stood }
  where
    long : (file : ℕ) → end_in (closed b) file ≤ length (disk.seen file)
    long file = elim (ends_closed b file) [
      | inl is ↦ subst (λ (n : ℕ). n ≤ length (disk.seen file)) (sym is) (stand.long file)
      | inr none ↦ omega (arith, none)
    ]

    stood : (file : ℕ) → Stands disk file (front_in (closed b) disk.seen file)
    stood file = elim (ends_closed b file) [
      | inl is ↦ subst (λ (n : ℕ). Stands disk file (take n (disk.seen file))) (sym is) (stand.stand file)
      | inr none ↦ subst (λ (n : ℕ). Stands disk file (take n (disk.seen file))) (sym none) (record { read = refl; left = λ image left. refl })
    ]

-- ---- while the runs are written

pub within_of : (b : Blocks) (es : List Effect) (made : Planned) (m : Message) (spot : Spot) (p : Placing) (disk : Disk) → ArePlannedBy b es made → place b (length (spelled_message m)) made.placing ≡ Some (spot, p)
    → AreWithin disk made.runs → end_of spot ≤ length (disk.seen spot.file) → AreWithin disk (with_message made.runs spot (spelled_message m))
within_of b es made m spot p disk h placed within room =
    within_put b disk made.runs made.placing (spelled_message m) spot p (sound_of b es made h).runs (spot_is b (length (spelled_message m)) made.placing spot p placed) within room

begins_of : (b : Blocks) (es : List Effect) (made : Planned) (disk : Disk) → ArePlannedBy b es made → BlocksStand b disk → All (λ run. run.at ≤ length (disk.seen run.file)) made.runs
begins_of b es made disk h stand =
    All-weaker (IsPlaced b) (λ (run : Run). run.at ≤ length (disk.seen run.file))
    (λ run placed. (let long = stand.long run.file in let is = end_placed b run h.table placed in omega (arith, long, is)))
    made.runs (runs_of b es made h).placed

pub kept_of : (b : Blocks) (es : List Effect) (made : Planned) (old new : Disk) → ArePlannedBy b es made → BlocksStand b old → ChangesRuns made.runs old new → LeavesOnly old new (KeepsBlocks b old)
kept_of b es made old new h stand changes =
    widened old new (KeepsBlocks b old) (AreKept made.runs (front_in b old.seen) old)
    (changes.any_moment (front_in b old.seen) in_front stand.stand)
    (λ image kept. record { blocks = kept.front; logs = λ file low. kept.untouched file (untouched file low) })
  where
    in_front : (file : ℕ) → All (λ run. run.file ≡ file → length (front_in b old.seen file) ≤ run.at) made.runs
    in_front file =
        All-weaker (IsPlaced b) (λ (run : Run). run.file ≡ file → length (front_in b old.seen file) ≤ run.at)
        (λ run placed same. (
        let is = end_placed b run h.table placed in
        let there : end_in b file ≡ run.at = ap (end_in b) (sym same) ∙ is in
        omega (arith, there, length-take (end_in b file) (old.seen file))
        )) made.runs (runs_of b es made h).placed

    untouched : (file : ℕ) → file < 2 → IsUntouched made.runs file
    untouched file low = All-weaker (λ (run : Run). 2 ≤ run.file) (λ (run : Run). run.file ≢ file) (λ run high same. omega (arith, high, same, low)) made.runs (runs_of b es made h).files

-- ---- once they are written

drop_behind : (xs ys : Bytes) (n at : ℕ) → at ≡ length xs + n → drop at (xs ++ ys) ≡ drop n ys
drop_behind xs ys n at is = ap (λ (k : ℕ). drop k (xs ++ ys)) is ∙ go xs
  where
    drop_one : (k z : ℕ) (zs : Bytes) → drop (1 + k) (z ∷ zs) ≡ drop k zs
    drop_one k z zs = ap (λ (j : ℕ). drop j (z ∷ zs)) (one-add k)

    go : (zs : Bytes) → drop (length zs + n) (zs ++ ys) ≡ drop n ys
    go [] = let none : 0 + n ≡ n = omega arith in ap (λ (k : ℕ). drop k ys) none
    go (z ∷ zs) = let more : length (z ∷ zs) + n ≡ 1 + (length zs + n) = omega arith in ap (λ (k : ℕ). drop k (z ∷ (zs ++ ys))) more ∙ drop_one (length zs + n) z (zs ++ ys) ∙ go zs

-- bytes that begin with what was in front of a run, and then the run
abbrev Starts : Disk → Files → Run → Type 0
Starts old image run = StartsWith (image run.file) (take run.at (old.seen run.file) ++ run.bytes)

module _ (old : Disk) (image : Files) (spot : Spot) (m : Message) (may : IsTrue (is_block_message m)) where
  one_stands : (run : Run) → HasAt spot m run → AreBytes run.bytes → run.at ≤ length (old.seen run.file) → Starts old image run → StandsAt image spot m
  one_stands run has bytes within starts = record { few = few; reads = reads }
    where
      size : 30 ≤ length (spelled_message m)
      size = (spelled_size m may).least

      front : Bytes
      front = take run.at (old.seen run.file)

      long : length front ≡ run.at
      long = omega (arith, length-take run.at (old.seen run.file), within)

      -- the message ends within the run
      inside : (spot.at - run.at) + spot.len ≤ length run.bytes
      inside = omega (arith, size, has.len, ap length has.spelled, length-take spot.len (drop (spot.at - run.at) run.bytes), length-drop (spot.at - run.at) run.bytes)

      there : bytes_at image spot ≡ spelled_message m
      there =
          ap (λ (f : ℕ). take spot.len (drop spot.at (image f))) has.file
          ∙ spot_among (image run.file) (front ++ run.bytes) spot.at spot.len starts (omega (arith, inside, long, has.from, length-append front run.bytes))
          ∙ ap (take spot.len) (drop_behind front run.bytes (spot.at - run.at) spot.at (omega (arith, long, has.from)))
          ∙ has.spelled

      few : IsBatch (bytes_at image spot)
      few = subst IsBatch (sym there) (record {
        are_bytes = subst AreBytes has.spelled (All-take (λ (byte : ℕ). byte < 256) spot.len (drop (spot.at - run.at) run.bytes) (All-drop (λ (byte : ℕ). byte < 256) (spot.at - run.at) run.bytes bytes));
        short = omega (arith, (spelled_size m may).most);
      })

      reads : message_at (bytes_at image spot) 0 ≡ Ok (m, spot.len)
      reads =
          let whole : spot.len - 0 ≡ spot.len = omega arith in
          (law_message (bytes_at image spot) 0 m spot.len few).1 (record {
            allowed = may;
            lies = record {
              order = omega arith;
              within = omega (arith, ap length there, has.len);
              bytes_are =
                  ap (λ (n : ℕ). take n (drop 0 (bytes_at image spot))) whole ∙ ap (take spot.len) there ∙ ap (λ (n : ℕ). take n (spelled_message m)) has.len ∙ take_whole (spelled_message m);
            };
          })
        where
          take_whole : (xs : Bytes) → take (length xs) xs ≡ xs
          take_whole [] = refl
          take_whole (x ∷ xs) = ap (λ (l : Bytes). x ∷ l) (take_whole xs)

  pub stands : (runs : List Run) → LiesIn runs spot m → All (λ run. AreBytes run.bytes) runs → All (λ run. run.at ≤ length (old.seen run.file)) runs → All (Starts old image) runs → StandsAt image spot m
  stands [] h bytes within starts = absurd h
  stands (run ∷ runs) (inl h) bytes within starts =
      one_stands run h (All-head (λ (r : Run). AreBytes r.bytes) run runs bytes) (All-head (λ (r : Run). r.at ≤ length (old.seen r.file)) run runs within) (All-head (Starts old image) run runs starts)
  stands (run ∷ runs) (inr h) bytes within starts =
      stands runs h (All-tail (λ (r : Run). AreBytes r.bytes) run runs bytes) (All-tail (λ (r : Run). r.at ≤ length (old.seen r.file)) run runs within) (All-tail (Starts old image) run runs starts)

module _ (old : Disk) (image : Files) (runs : List Run) (bytes : All (λ run. AreBytes run.bytes) runs) (within : All (λ run. run.at ≤ length (old.seen run.file)) runs) (starts : All (Starts old image) runs) where
  one_stored : (e : Effect) (r : Record) → IsTrue (is_record e) → IsStoredBy (LiesIn runs) e r → IsStoredBy (StandsAt image) e r
  one_stored (PutHere seq at id subject headers payload) (Put number moment name spot) may h =
      stands old image spot (message_by seq at subject headers payload) (put_allowed seq at id subject headers payload may) runs h bytes within starts
  one_stored (PutHere seq at id subject headers payload) (Change f) may h = tt
  one_stored (MakeStream incarnation made config) r may h = tt
  one_stored (ChangeStream config) r may h = tt
  one_stored DropStream r may h = tt
  one_stored (Skip seq at id) r may h = tt
  one_stored (Remove low high) r may h = tt
  one_stored (MakeConsumer name made config cursor picks) r may h = tt
  one_stored (DropConsumer name) r may h = tt
  one_stored (Deliver name seq count due dseq) r may h = tt
  one_stored (Acked name low high) r may h = tt
  one_stored (Due name seq due) r may h = tt
  one_stored (GivenUp name moment) r may h = tt
  one_stored (Now moment) r may h = tt

  pub all_stored : (es : List Effect) (rs : List Record) → IsTrue (list_all is_record es) → AreStoredBy (LiesIn runs) es rs → AreStoredBy (StandsAt image) es rs
  all_stored [] [] may h = tt
  all_stored (e ∷ es) (r ∷ rs) may h =
      let parts = and_parts (is_record e) (list_all is_record es) may in
      (one_stored e r parts.0 h.0, all_stored es rs parts.1 h.1)
  all_stored [] (r ∷ rs) may h = absurd h
  all_stored (e ∷ es) [] may h = absurd h

pub written_of : (b : Blocks) (es : List Effect) (made : Planned) (old new : Disk) → ArePlannedBy b es made → BlocksStand b old → ChangesRuns made.runs old new →
    All (λ run. AreBytes run.bytes) made.runs → All (IsWritten old new) made.runs → HasStored b es made.records old new
written_of b es made old new h stand changes bytes written = record {
  read = record {
    messages = all_stored old new.seen made.runs bytes within (All-weaker (IsWritten old new) (Starts old new.seen) (λ run st. st.read) made.runs written) es made.records h.allowed runs.stored;
    blocks = λ file. (stood file).read;
  };
  left = λ image left. record {
    messages = all_stored old image made.runs bytes within (All-weaker (IsWritten old new) (Starts old image) (λ run st. st.left (image run.file) (left run.file)) made.runs written) es made.records h.allowed runs.stored;
    blocks = λ file. (stood file).left (image file) (left file);
  };
}
  where
    runs : AreRuns b es made
    runs = runs_of b es made h

    within : All (λ run. run.at ≤ length (old.seen run.file)) made.runs
    within = begins_of b es made old h stand

    stood : (file : ℕ) → Stands new file (front_in b old.seen file)
    stood file = changes.stands file (front_in b old.seen file) (before file) (stand.stand file)
      where
        before : (f : ℕ) → All (λ run. run.file ≡ f → length (front_in b old.seen f) ≤ run.at) made.runs
        before f =
            All-weaker (IsPlaced b) (λ (run : Run). run.file ≡ f → length (front_in b old.seen f) ≤ run.at)
            (λ run placed same. (
            let is = end_placed b run h.table placed in
            let there : end_in b f ≡ run.at = ap (end_in b) (sym same) ∙ is in
            omega (arith, there, length-take (end_in b f) (old.seen f))
            )) made.runs runs.placed

-- ---- of all disks

pub record Plans : Type 1 where
  pub runs : (b : Blocks) (es : List Effect) (made : Planned) → ArePlannedBy b es made → AreRuns b es made
  pub within :
      (b : Blocks) (es : List Effect) (made : Planned) (m : Message) (spot : Spot) (p : Placing) (disk : Disk) → ArePlannedBy b es made
      → place b (length (spelled_message m)) made.placing ≡ Some (spot, p) → AreWithin disk made.runs → end_of spot ≤ length (disk.seen spot.file)
      → AreWithin disk (with_message made.runs spot (spelled_message m))
  pub closed : (b : Blocks) (disk : Disk) → BlocksStand b disk → BlocksStand (closed b) disk
  pub kept :
      (b : Blocks) (es : List Effect) (made : Planned) (old new : Disk) → ArePlannedBy b es made → BlocksStand b old → ChangesRuns made.runs old new
      → LeavesOnly old new (KeepsBlocks b old)
  pub written :
      (b : Blocks) (es : List Effect) (made : Planned) (old new : Disk) → ArePlannedBy b es made → BlocksStand b old → ChangesRuns made.runs old new
      → All (λ run. AreBytes run.bytes) made.runs → All (IsWritten old new) made.runs → HasStored b es made.records old new

abbrev pub law_plans : Plans
law_plans = record { runs = runs_of; within = within_of; closed = closed_of; kept = kept_of; written = written_of }

-- and of two of them
pub plans_of : (old new : Disk) → LawPlans old new
plans_of old new = record {
  runs = runs_of;
  within = λ b es made m spot p h placed within room. within_of b es made m spot p old h placed within room;
  closed = λ b stand. closed_of b old stand;
  kept = λ b es made h stand changes. kept_of b es made old new h stand changes;
  written = λ b es made h stand changes bytes written. written_of b es made old new h stand changes bytes written;
}
