-- The runs of a plan, message by message.
use Rattle.std.proofs.Common.{◌≡◌, ◌≢◌, ◌≤◌, ◌<◌, ◌⊎◌, ◌^◌, inl, inr, ℕ, ◌+◌, ◌-◌, ◌==◌, max, Bool, true, false, not, cond, ◌||◌, ◌&&◌, List, [], ◌∷◌, ◌++◌, Option, Some, None, All, IsTrue, length, find, option_map, refl, sym, ap, subst, ◌∙◌, arith, length-append}
use Rattle.std.specs.Prelude.{nat_le}
use Rattle.std.specs.List.{AllZip, list_all, list_any}
use Rattle.std.specs.Option.{option_to_list}
use Rattle.std.proofs.lemmas.Bool.{true≢false, or_cases, and_parts, and_from, or_left, or_right, eq-eqb, ne_eqb, le-leb, leb-true, eqb-true}
use Rattle.std.proofs.lemmas.List.Elements.{All-nil, All-cons, All-push, All-weaker}
use Rattle.std.proofs.lemmas.List.Folds.{list_any-append}
use Rattle.std.proofs.Math.Nat.{le-max_left, le-max_right}
use Rattle.js_base.specs.Bytes.{Bytes}
use Rattle.js_base.specs.declared.spot.Spot.{Spot}
use Rattle.js_model.specs.declared.stream.Message.{Message}
use Rattle.effects.specs.declared.effect.Effect.{Effect}
use Rattle.effects.specs.declared.effect.Effect.TheVariants.{MakeStream, ChangeStream, DropStream, PutHere, Skip, Remove, MakeConsumer, DropConsumer, Deliver, Acked, Due, GivenUp, Now}
use Rattle.js_base.specs.Subjects.{is_subject_text}
use Rattle.js_model.specs.Configs.{is_number}
use Rattle.op_records.specs.Allowed.{is_record, is_text, is_header, fits_block}
use Rattle.op_records.specs.Blocks.{is_block_message, spelled_message}
use Rattle.op_records.specs.declared.record.Record.{Record}
use Rattle.op_records.specs.declared.record.Record.TheVariants.{Put, Change}
use Rattle.op_records.proofs.BlockSizes.{spelled_size}
use Rattle.block_table.specs.declared.block.Block.{Block}
use Rattle.block_table.specs.declared.placing.Placing.{Placing}
use Rattle.block_table.specs.Blocks.{Blocks, blocks, has_block, is_among}
use Rattle.block_table.specs.Puts.{end_of, goes_on, begins}
use Rattle.block_table.specs.Placings.{placing, free_from, stays, place_on, place_at, place, restarted}
use Rattle.block_table.proofs.Batches.{found_free}
use Rattle.block_writing.specs.declared.run.Run.{Run}
use Rattle.block_writing.specs.Planning.{Planned, begun, run_at, with_bytes, with_message, with_put, with_change, message_by, plan_message, planned_one, then_planned, planned}
use Rattle.block_writing.specs.Runs.{IsPlaced, IsShort, AreApart, HasAt, LiesIn, IsStoredBy, AreStoredBy, spot_of}
use Rattle.block_table.specs.Tables.{IsFile, IsTable}
use Rattle.vol_disk.specs.Disk.{Disk}
use Rattle.block_writing.specs.Writing.{AreWithin, IsWithin}
use Rattle.block_writing.specs.Laws.{AreRuns, ArePlannedBy}
use Rattle.block_writing.proofs.Messages.{all_front, all_last, some_front, some_last, apart_push, apart_same, new_run, same_run, lies_longer, has_first, has_last}

-- ---- what a place is

abbrev spot_on : Block → ℕ → Spot
spot_on k len = record { file = k.file; at = k.end; len = len }

abbrev spot_at : ℕ → ℕ → Spot
spot_at file len = record { file = file; at = 0; len = len }

abbrev behind : ℕ → ℕ → ℕ → Placing
behind from file end = record { from = from; writing = Some (record { file = file; end = end }) }

-- it is behind the block being written
pub record GoesOn (b : Blocks) (len : ℕ) (p : Placing) (spot : Spot) (q : Placing) : Type 0 where
  pub block : Block
  pub writes : p.writing ≡ Some block
  pub within : block.end + len ≤ 8388608
  pub spot_is : spot ≡ record { file = block.file; at = block.end; len = len }
  pub rest_is : q ≡ record { from = p.from; writing = Some (record { file = block.file; end = block.end + len }) }

-- it begins a file that is free
pub record BeginsFile (b : Blocks) (len : ℕ) (p : Placing) (spot : Spot) (q : Placing) : Type 0 where
  pub file : ℕ
  pub free : has_block b file ≡ false
  pub above : p.from ≤ file
  pub low : 2 ≤ file
  pub high : file ≤ 65535
  pub spot_is : spot ≡ record { file = file; at = 0; len = len }
  pub rest_is : q ≡ record { from = file + 1; writing = Some (record { file = file; end = len }) }

abbrev pub IsSpot : Blocks → ℕ → Placing → Spot → Placing → Type 0
IsSpot b len p spot q = GoesOn b len p spot q ⊎ BeginsFile b len p spot q

pub spot_is : (b : Blocks) (len : ℕ) (p : Placing) (spot : Spot) (q : Placing) → place b len p ≡ Some (spot, q) → IsSpot b len p spot q
spot_is b len p spot q e = go (stays len p.writing) refl e
  where
    some_is : {X : Type 0} (x y : X) → Some x ≡ Some y → x ≡ y
    some_is x y same = cc

    onward : (w : Option Block) → p.writing ≡ w → stays len w ≡ true → place_on len p w ≡ Some (spot, q) → IsSpot b len p spot q
    onward None is within h = absurd (true≢false (sym within))
    onward (Some k) is within h =
        let same = some_is {X = Spot × Placing} (spot_on k len, behind p.from k.file (k.end + len)) (spot, q) h in
        inl (record {
          block = k;
          writes = is;
          within = leb-true (k.end + len) 8388608 within;
          spot_is = sym (ap (λ (r : Spot × Placing). r.0) same);
          rest_is = sym (ap (λ (r : Spot × Placing). r.1) same);
        })

    begun_at : (o : Option ℕ) → free_from p.from b ≡ o → option_map (place_at len) o ≡ Some (spot, q) → IsSpot b len p spot q
    begun_at None is h = cc
    begun_at (Some file) is h =
        let free = found_free b (max 2 p.from) (65536 - max 2 p.from) file is in
        let same = some_is {X = Spot × Placing} (spot_at file len, behind (file + 1) file len) (spot, q) h in
        inr (record {
          file = file;
          free = free.0;
          above = omega (arith, free.1, le-max_right 2 p.from);
          low = omega (arith, free.1, le-max_left 2 p.from);
          high = omega (arith, free.1, free.2);
          spot_is = sym (ap (λ (r : Spot × Placing). r.0) same);
          rest_is = sym (ap (λ (r : Spot × Placing). r.1) same);
        })

    go : (s : Bool) → stays len p.writing ≡ s → cond s (place_on len p p.writing) (option_map (place_at len) (free_from p.from b)) ≡ Some (spot, q) → IsSpot b len p spot q
    go true is h = onward p.writing refl is h
    go false is h = begun_at (free_from p.from b) refl h

-- ---- what holds of the runs so far

-- the block being written is the table's, or ends where the last run does
abbrev pub IsEnd : Blocks → List Run → Option Block → Type 0
IsEnd b runs None = Unit {0}
IsEnd b runs (Some k) =
    ((runs ≡ []) × (b.writing ≡ Some k)) ⊎ ((front : List Run) × (run : Run) × (runs ≡ front ++ run ∷ []) × (run.file ≡ k.file) × (run.at + length run.bytes ≡ k.end))

-- a run that begins a file is in one that is not free any more
abbrev pub IsBelow : Blocks → ℕ → Run → Type 0
IsBelow b from run = has_block b run.file ≡ false → run.file < from

abbrev pub IsSmall : Run → Type 0
IsSmall run = run.at + length run.bytes ≤ 8388608

pub record AreSound (b : Blocks) (runs : List Run) (p : Placing) : Type 0 where
  pub placed : All (IsPlaced b) runs
  pub small : All IsSmall runs
  pub apart : AreApart runs
  pub below : All (IsBelow b p.from) runs
  pub end : IsEnd b runs p.writing

-- the block being written is one
writing_there : (b : Blocks) (k : Block) → b.writing ≡ Some k → has_block b k.file ≡ true
writing_there b k is =
    list_any-append (λ (x : Block). x.file == k.file) b.older (option_to_list b.writing)
    ∙ or_right (is_among b.older k.file) (is_among (option_to_list b.writing) k.file)
    (ap (λ (o : Option Block). is_among (option_to_list o) k.file) is ∙ or_left (k.file == k.file) false (eq-eqb k.file k.file refl))

module _ (b : Blocks) where
  -- a file that is free has no run
  untouched : (from file : ℕ) (run : Run) → has_block b file ≡ false → from ≤ file → IsBelow b from run → run.file ≢ file
  untouched from file run free above below is =
      let less = below (ap (has_block b) is ∙ free) in
      omega (arith, less, is, above)

  -- a message that goes on
  sound_on : (runs : List Run) (p : Placing) (k : Block) (bytes : Bytes) → AreSound b runs p → p.writing ≡ Some k → k.end + length bytes ≤ 8388608 →
      AreSound b (with_message runs (record { file = k.file; at = k.end; len = length bytes }) bytes) (record { from = p.from; writing = Some (record { file = k.file; end = k.end + length bytes }) })
  sound_on runs p k bytes s is within = go (subst (IsEnd b runs) is s.end)
    where
      spot : Spot
      spot = record { file = k.file; at = k.end; len = length bytes }

      q : Placing
      q = record { from = p.from; writing = Some (record { file = k.file; end = k.end + length bytes }) }

      first : runs ≡ [] → b.writing ≡ Some k → AreSound b (with_message runs spot bytes) q
      first none writes = subst (λ (l : List Run). AreSound b (with_message l spot bytes) q) (sym none) (record {
        placed = All-cons (IsPlaced b) (run_at spot bytes) []
            (or_left (goes_on (spot_of (run_at spot bytes)) b.writing) (begins (spot_of (run_at spot bytes)) b)
            (ap (goes_on (spot_of (run_at spot bytes))) writes ∙ and_from (k.file == k.file) (k.end == k.end) (eq-eqb k.file k.file refl) (eq-eqb k.end k.end refl)))
            (All-nil (IsPlaced b));
        small = All-cons IsSmall (run_at spot bytes) [] within (All-nil IsSmall);
        apart = (All-nil (λ (other : Run). other.file ≢ k.file), tt);
        below = All-cons (IsBelow b p.from) (run_at spot bytes) [] (λ free. absurd (true≢false (sym (writing_there b k writes) ∙ free))) (All-nil (IsBelow b p.from));
        end = inr ([], run_at spot bytes, refl, refl, refl);
      })

      more : (front : List Run) (run : Run) → runs ≡ front ++ run ∷ [] → run.file ≡ k.file → run.at + length run.bytes ≡ k.end → AreSound b (with_message runs spot bytes) q
      more front run runs_are file ends =
          let now = same_run front run spot bytes (eq-eqb run.file k.file file) in
          let long = length-append run.bytes bytes in
          subst (λ (l : List Run). AreSound b l q) (sym (ap (λ (l : List Run). with_message l spot bytes) runs_are ∙ now)) (record {
            placed = All-push (IsPlaced b) front (with_bytes run bytes) (all_front (IsPlaced b) front run (all s.placed)) (all_last (IsPlaced b) front run (all s.placed));
            small = All-push IsSmall front (with_bytes run bytes) (all_front IsSmall front run (all_small s.small)) (omega (arith, long, ends, within));
            apart = apart_same front run (with_bytes run bytes) refl (subst AreApart runs_are s.apart);
            below = All-push (IsBelow b p.from) front (with_bytes run bytes) (all_front (IsBelow b p.from) front run (all_below s.below)) (all_last (IsBelow b p.from) front run (all_below s.below));
            end = inr (front, with_bytes run bytes, refl, file, omega (arith, long, ends));
          })
        where
          all : All (IsPlaced b) runs → All (IsPlaced b) (front ++ run ∷ [])
          all h = subst (All (IsPlaced b)) runs_are h

          all_small : All IsSmall runs → All IsSmall (front ++ run ∷ [])
          all_small h = subst (All IsSmall) runs_are h

          all_below : All (IsBelow b p.from) runs → All (IsBelow b p.from) (front ++ run ∷ [])
          all_below h = subst (All (IsBelow b p.from)) runs_are h

      go : IsEnd b runs (Some k) → AreSound b (with_message runs spot bytes) q
      go (inl h) = first h.0 h.1
      go (inr h) = more h.0 h.1 h.2 h.3 h.4

  -- a message that begins a file
  sound_at : (runs : List Run) (p : Placing) (file : ℕ) (bytes : Bytes) → AreSound b runs p → has_block b file ≡ false → p.from ≤ file → 2 ≤ file → file ≤ 65535 → length bytes ≤ 8388608 →
      AreSound b (with_message runs (record { file = file; at = 0; len = length bytes }) bytes) (record { from = file + 1; writing = Some (record { file = file; end = length bytes }) })
  sound_at runs p file bytes s free above low high within =
      subst (λ (l : List Run). AreSound b l q) (sym (new_run runs spot bytes (All-weaker (IsBelow b p.from) (λ (run : Run). (run.file == file) ≡ false) (λ run below. ne_eqb run.file file (untouched p.from file run free above below)) runs s.below))) (record {
        placed = All-push (IsPlaced b) runs new s.placed
            (or_right (goes_on (spot_of new) b.writing) (begins (spot_of new) b)
            (and_from (nat_le 2 file && nat_le file 65535) (not (has_block b file)) (and_from (nat_le 2 file) (nat_le file 65535) (le-leb 2 file low) (le-leb file 65535 high)) (ap not free)));
        small = All-push IsSmall runs new s.small (omega (arith, within));
        apart = apart_push runs new s.apart (All-weaker (IsBelow b p.from) (λ (run : Run). file ≢ run.file) (λ run below is. untouched p.from file run free above below (sym is)) runs s.below);
        below = All-push (IsBelow b (file + 1)) runs new
            (All-weaker (IsBelow b p.from) (IsBelow b (file + 1)) (λ run below absent. (let less = below absent in omega (arith, less, above))) runs s.below)
            (λ absent. omega arith);
        end = inr (runs, new, refl, refl, omega arith);
      })
    where
      spot : Spot
      spot = record { file = file; at = 0; len = length bytes }

      new : Run
      new = run_at spot bytes

      q : Placing
      q = record { from = file + 1; writing = Some (record { file = file; end = length bytes }) }

  -- where the message lies, and those before it
  new_at : (runs : List Run) (p : Placing) (len : ℕ) (spot : Spot) (q : Placing) (bytes : Bytes) → AreSound b runs p → (h : BeginsFile b len p spot q) →
      with_message runs (spot_at h.file len) bytes ≡ runs ++ run_at (spot_at h.file len) bytes ∷ []
  new_at runs p len spot q bytes s h =
      new_run runs (spot_at h.file len) bytes (All-weaker (IsBelow b p.from) (λ (run : Run). (run.file == h.file) ≡ false) (λ run below. ne_eqb run.file h.file (untouched p.from h.file run h.free h.above below)) runs s.below)

  -- it ends within its file, if that reaches so far
  pub within_put : (disk : Disk) (runs : List Run) (p : Placing) (bytes : Bytes) (spot : Spot) (q : Placing) → AreSound b runs p → IsSpot b (length bytes) p spot q → AreWithin disk runs
      → end_of spot ≤ length (disk.seen spot.file) → AreWithin disk (with_message runs spot bytes)
  within_put disk runs p bytes spot q s (inl h) within room =
      subst (λ (x : Spot). AreWithin disk (with_message runs x bytes)) (sym h.spot_is) (go (subst (IsEnd b runs) h.writes s.end))
    where
      here : Spot
      here = spot_on h.block (length bytes)

      reaches : h.block.end + length bytes ≤ length (disk.seen h.block.file)
      reaches = subst (λ (x : Spot). end_of x ≤ length (disk.seen x.file)) h.spot_is room

      go : IsEnd b runs (Some h.block) → AreWithin disk (with_message runs here bytes)
      go (inl e) = subst (λ (l : List Run). AreWithin disk (with_message l here bytes)) (sym e.0) (All-cons (IsWithin disk) (run_at here bytes) [] reaches (All-nil (IsWithin disk)))
      go (inr e) =
          let same = ap (λ (f : ℕ). length (disk.seen f)) e.3 in
          subst (AreWithin disk) (sym (ap (λ (l : List Run). with_message l here bytes) e.2 ∙ same_run e.0 e.1 here bytes (eq-eqb e.1.file h.block.file e.3)))
          (All-push (IsWithin disk) e.0 (with_bytes e.1 bytes) (all_front (IsWithin disk) e.0 e.1 (subst (AreWithin disk) e.2 within)) (omega (arith, length-append e.1.bytes bytes, e.4, reaches, same)))
  within_put disk runs p bytes spot q s (inr h) within room =
      let here : Spot = spot_at h.file (length bytes) in
      let reaches = subst (λ (x : Spot). end_of x ≤ length (disk.seen x.file)) h.spot_is room in
      subst (λ (x : Spot). AreWithin disk (with_message runs x bytes)) (sym h.spot_is)
      (subst (AreWithin disk) (sym (new_at runs p (length bytes) spot q bytes s h)) (All-push (IsWithin disk) runs (run_at here bytes) within reaches))

  lies_put : (runs : List Run) (p : Placing) (m : Message) (spot : Spot) (q : Placing) → AreSound b runs p → IsSpot b (length (spelled_message m)) p spot q → LiesIn (with_message runs spot (spelled_message m)) spot m
  lies_put runs p m spot q s (inl h) = subst (λ (x : Spot). LiesIn (with_message runs x (spelled_message m)) x m) (sym h.spot_is) (go (subst (IsEnd b runs) h.writes s.end))
    where
      here : Spot
      here = spot_on h.block (length (spelled_message m))

      go : IsEnd b runs (Some h.block) → LiesIn (with_message runs here (spelled_message m)) here m
      go (inl e) = subst (λ (l : List Run). LiesIn (with_message l here (spelled_message m)) here m) (sym e.0) (inl (has_first here m refl))
      go (inr e) =
          subst (λ (l : List Run). LiesIn l here m) (sym (ap (λ (l : List Run). with_message l here (spelled_message m)) e.2 ∙ same_run e.0 e.1 here (spelled_message m) (eq-eqb e.1.file h.block.file e.3)))
          (some_last (HasAt here m) e.0 (with_bytes e.1 (spelled_message m)) (has_last e.1 here m (sym e.3) e.4 refl))
  lies_put runs p m spot q s (inr h) =
      let here : Spot = spot_at h.file (length (spelled_message m)) in
      subst (λ (x : Spot). LiesIn (with_message runs x (spelled_message m)) x m) (sym h.spot_is)
      (subst (λ (l : List Run). LiesIn l here m) (sym (new_at runs p (length (spelled_message m)) spot q (spelled_message m) s h))
      (some_last (HasAt here m) runs (run_at here (spelled_message m)) (has_first here m refl)))

  lies_on : (runs : List Run) (p : Placing) (bytes : Bytes) (spot : Spot) (q : Placing) (other : Spot) (m : Message) → AreSound b runs p → IsSpot b (length bytes) p spot q → LiesIn runs other m → LiesIn (with_message runs spot bytes) other m
  lies_on runs p bytes spot q other m s (inl h) lies = subst (λ (x : Spot). LiesIn (with_message runs x bytes) other m) (sym h.spot_is) (go (subst (IsEnd b runs) h.writes s.end))
    where
      here : Spot
      here = spot_on h.block (length bytes)

      go : IsEnd b runs (Some h.block) → LiesIn (with_message runs here bytes) other m
      go (inl e) = absurd (subst (λ (l : List Run). LiesIn l other m) e.0 lies)
      go (inr e) =
          subst (λ (l : List Run). LiesIn l other m) (sym (ap (λ (l : List Run). with_message l here bytes) e.2 ∙ same_run e.0 e.1 here bytes (eq-eqb e.1.file h.block.file e.3)))
          (lies_longer e.0 e.1 other m bytes (subst (λ (l : List Run). LiesIn l other m) e.2 lies))
  lies_on runs p bytes spot q other m s (inr h) lies =
      subst (λ (x : Spot). LiesIn (with_message runs x bytes) other m) (sym h.spot_is)
      (subst (λ (l : List Run). LiesIn l other m) (sym (new_at runs p (length bytes) spot q bytes s h))
      (some_front (HasAt other m) runs (run_at (spot_at h.file (length bytes)) bytes ∷ []) lies))

  sound_put : (runs : List Run) (p : Placing) (bytes : Bytes) (spot : Spot) (q : Placing) → length bytes ≤ 8388608 → AreSound b runs p → IsSpot b (length bytes) p spot q → AreSound b (with_message runs spot bytes) q
  sound_put runs p bytes spot q small s (inl h) =
      subst (λ (x : Spot). AreSound b (with_message runs x bytes) q) (sym h.spot_is)
      (subst (AreSound b (with_message runs (spot_on h.block (length bytes)) bytes)) (sym h.rest_is) (sound_on runs p h.block bytes s h.writes h.within))
  sound_put runs p bytes spot q small s (inr h) =
      subst (λ (x : Spot). AreSound b (with_message runs x bytes) q) (sym h.spot_is)
      (subst (AreSound b (with_message runs (spot_at h.file (length bytes)) bytes)) (sym h.rest_is) (sound_at runs p h.file bytes s h.free h.above h.low h.high small))

  sound_first : AreSound b [] (placing b)
  sound_first = record {
    placed = All-nil (IsPlaced b);
    small = All-nil IsSmall;
    apart = tt;
    below = All-nil (IsBelow b 2);
    end = go b.writing refl;
  }
    where
      go : (w : Option Block) → b.writing ≡ w → IsEnd b [] w
      go None is = tt
      go (Some k) is = inl (refl, is)

  sound_restarted : (runs : List Run) (p : Placing) → AreSound b runs p → AreSound b runs (restarted p)
  sound_restarted runs p s = record { placed = s.placed; small = s.small; apart = s.apart; below = s.below; end = tt }

-- ---- change by change

pub record IsSound (b : Blocks) (es : List Effect) (so_far : Planned) : Type 0 where
  pub runs : AreSound b so_far.runs so_far.placing
  pub stored : AreStoredBy (LiesIn so_far.runs) es so_far.records

zip_push : {X Y : Type 0} (R : X → Y → Type 0) (xs : List X) (ys : List Y) (x : X) (y : Y) → AllZip R xs ys → R x y → AllZip R (xs ++ x ∷ []) (ys ++ y ∷ [])
zip_push R [] [] x y h r = (r, tt)
zip_push R (a ∷ us) (c ∷ vs) x y h r = (h.0, zip_push R us vs x y h.1 r)
zip_push R [] (c ∷ vs) x y h r = absurd h
zip_push R (a ∷ us) [] x y h r = absurd h

zip_weaker : {X Y : Type 0} (R S : X → Y → Type 0) → ((x : X) (y : Y) → R x y → S x y) → (xs : List X) (ys : List Y) → AllZip R xs ys → AllZip S xs ys
zip_weaker R S more [] [] h = h
zip_weaker R S more (x ∷ xs) (y ∷ ys) h = (more x y h.0, zip_weaker R S more xs ys h.1)
zip_weaker R S more [] (y ∷ ys) h = h
zip_weaker R S more (x ∷ xs) [] h = h

-- what is said of spots goes over from one saying to another
pub stored_weaker : (P Q : Spot → Message → Type 0) → ((spot : Spot) (m : Message) → P spot m → Q spot m) → (e : Effect) (r : Record) → IsStoredBy P e r → IsStoredBy Q e r
stored_weaker P Q more (PutHere seq at id subject headers payload) (Put number moment name spot) h = more spot (message_by seq at subject headers payload) h
stored_weaker P Q more (PutHere seq at id subject headers payload) (Change f) h = tt
stored_weaker P Q more (MakeStream incarnation made config) r h = tt
stored_weaker P Q more (ChangeStream config) r h = tt
stored_weaker P Q more DropStream r h = tt
stored_weaker P Q more (Skip seq at id) r h = tt
stored_weaker P Q more (Remove low high) r h = tt
stored_weaker P Q more (MakeConsumer name made config cursor picks) r h = tt
stored_weaker P Q more (DropConsumer name) r h = tt
stored_weaker P Q more (Deliver name seq count due dseq) r h = tt
stored_weaker P Q more (Acked name low high) r h = tt
stored_weaker P Q more (Due name seq due) r h = tt
stored_weaker P Q more (GivenUp name moment) r h = tt
stored_weaker P Q more (Now moment) r h = tt

pub all_stored_weaker : (P Q : Spot → Message → Type 0) → ((spot : Spot) (m : Message) → P spot m → Q spot m) → (es : List Effect) (rs : List Record) → AreStoredBy P es rs → AreStoredBy Q es rs
all_stored_weaker P Q more es rs h = zip_weaker (IsStoredBy P) (IsStoredBy Q) (stored_weaker P Q more) es rs h

module _ (b : Blocks) (es : List Effect) (so_far : Planned) (s : IsSound b es so_far) where
  sound_change : (e : Effect) → IsStoredBy (LiesIn so_far.runs) e (Change e) → IsSound b (es ++ e ∷ []) (with_change so_far e so_far.placing)
  sound_change e none = record { runs = s.runs; stored = zip_push (IsStoredBy (LiesIn so_far.runs)) es so_far.records e (Change e) s.stored none }

  sound_restart : (e : Effect) → IsStoredBy (LiesIn so_far.runs) e (Change e) → IsSound b (es ++ e ∷ []) (with_change so_far e (restarted so_far.placing))
  sound_restart e none = record {
    runs = sound_restarted b so_far.runs so_far.placing s.runs;
    stored = zip_push (IsStoredBy (LiesIn so_far.runs)) es so_far.records e (Change e) s.stored none;
  }

  sound_message : (seq at : ℕ) (id subject headers payload : Bytes) (next : Planned) → IsTrue (is_block_message (message_by seq at subject headers payload)) →
      plan_message b so_far id (message_by seq at subject headers payload) ≡ Some next → IsSound b (es ++ PutHere seq at id subject headers payload ∷ []) next
  sound_message seq at id subject headers payload next may e = go (place b (length (spelled_message m)) so_far.placing) refl e
    where
      m : Message
      m = message_by seq at subject headers payload

      some_is : {X : Type 0} (x y : X) → Some x ≡ Some y → x ≡ y
      some_is x y same = cc

      made : (spot : Spot) (q : Placing) → IsSpot b (length (spelled_message m)) so_far.placing spot q → IsSound b (es ++ PutHere seq at id subject headers payload ∷ []) (with_put so_far id m (spot, q))
      made spot q is = record {
        runs = sound_put b so_far.runs so_far.placing (spelled_message m) spot q (omega (arith, (spelled_size m may).most)) s.runs is;
        stored = zip_push (IsStoredBy (LiesIn (with_message so_far.runs spot (spelled_message m)))) es so_far.records (PutHere seq at id subject headers payload) (Put seq at id spot)
            (all_stored_weaker (LiesIn so_far.runs) (LiesIn (with_message so_far.runs spot (spelled_message m)))
            (λ other n h. lies_on b so_far.runs so_far.placing (spelled_message m) spot q other n s.runs is h) es so_far.records s.stored)
            (lies_put b so_far.runs so_far.placing m spot q s.runs is);
      }

      go : (o : Option (Spot × Placing)) → place b (length (spelled_message m)) so_far.placing ≡ o → option_map (with_put so_far id m) o ≡ Some next → IsSound b (es ++ PutHere seq at id subject headers payload ∷ []) next
      go None is h = cc
      go (Some (spot, q)) is h =
          subst (IsSound b (es ++ PutHere seq at id subject headers payload ∷ [])) (some_is _ _ h) (made spot q (spot_is b (length (spelled_message m)) so_far.placing spot q is))

-- the parts of a message's change that may be recorded
record Parts (seq at : ℕ) (id subject headers payload : Bytes) : Type 0 where
  numbers : IsTrue (is_number seq && is_number at)
  text : IsTrue (is_text id)
  subject_is : IsTrue (is_subject_text subject)
  header : IsTrue (is_header headers)
  fits : IsTrue (fits_block headers payload)

parts_of : (seq at : ℕ) (id subject headers payload : Bytes) → IsTrue (is_record (PutHere seq at id subject headers payload)) → Parts seq at id subject headers payload
parts_of seq at id subject headers payload is =
    let fits = and_parts (is_number seq && is_number at && is_text id && is_subject_text subject && is_header headers) (fits_block headers payload) is in
    let header = and_parts (is_number seq && is_number at && is_text id && is_subject_text subject) (is_header headers) fits.0 in
    let text = and_parts (is_number seq && is_number at && is_text id) (is_subject_text subject) header.0 in
    let name = and_parts (is_number seq && is_number at) (is_text id) text.0 in
    record { numbers = name.0; text = name.1; subject_is = text.1; header = header.1; fits = fits.1 }

-- its message
pub put_allowed : (seq at : ℕ) (id subject headers payload : Bytes) → IsTrue (is_record (PutHere seq at id subject headers payload)) → IsTrue (is_block_message (message_by seq at subject headers payload))
put_allowed seq at id subject headers payload is =
    let p = parts_of seq at id subject headers payload is in
    and_from (is_number seq && is_number at && is_subject_text subject && is_header headers) (fits_block headers payload)
    (and_from (is_number seq && is_number at && is_subject_text subject) (is_header headers)
    (and_from (is_number seq && is_number at) (is_subject_text subject) p.numbers p.subject_is) p.header) p.fits

-- and its id
pub id_allowed : (seq at : ℕ) (id subject headers payload : Bytes) → IsTrue (is_record (PutHere seq at id subject headers payload)) → IsTrue (is_text id)
id_allowed seq at id subject headers payload is = (parts_of seq at id subject headers payload is).text

sound_one : (b : Blocks) (es : List Effect) (so_far next : Planned) (e : Effect) → IsTrue (is_record e) → IsSound b es so_far → planned_one b so_far e ≡ Some next → IsSound b (es ++ e ∷ []) next
sound_one b es so_far next (MakeStream incarnation made config) may s h = subst (IsSound b (es ++ MakeStream incarnation made config ∷ [])) (cc) (sound_restart b es so_far s (MakeStream incarnation made config) tt)
sound_one b es so_far next (ChangeStream config) may s h = subst (IsSound b (es ++ ChangeStream config ∷ [])) (cc) (sound_change b es so_far s (ChangeStream config) tt)
sound_one b es so_far next DropStream may s h = subst (IsSound b (es ++ DropStream ∷ [])) (cc) (sound_restart b es so_far s DropStream tt)
sound_one b es so_far next (PutHere seq at id subject headers payload) may s h = sound_message b es so_far s seq at id subject headers payload next (put_allowed seq at id subject headers payload may) h
sound_one b es so_far next (Skip seq at id) may s h = subst (IsSound b (es ++ Skip seq at id ∷ [])) (cc) (sound_change b es so_far s (Skip seq at id) tt)
sound_one b es so_far next (Remove low high) may s h = subst (IsSound b (es ++ Remove low high ∷ [])) (cc) (sound_change b es so_far s (Remove low high) tt)
sound_one b es so_far next (MakeConsumer name made config cursor picks) may s h = subst (IsSound b (es ++ MakeConsumer name made config cursor picks ∷ [])) (cc) (sound_change b es so_far s (MakeConsumer name made config cursor picks) tt)
sound_one b es so_far next (DropConsumer name) may s h = subst (IsSound b (es ++ DropConsumer name ∷ [])) (cc) (sound_change b es so_far s (DropConsumer name) tt)
sound_one b es so_far next (Deliver name seq count due dseq) may s h = subst (IsSound b (es ++ Deliver name seq count due dseq ∷ [])) (cc) (sound_change b es so_far s (Deliver name seq count due dseq) tt)
sound_one b es so_far next (Acked name low high) may s h = subst (IsSound b (es ++ Acked name low high ∷ [])) (cc) (sound_change b es so_far s (Acked name low high) tt)
sound_one b es so_far next (Due name seq due) may s h = subst (IsSound b (es ++ Due name seq due ∷ [])) (cc) (sound_change b es so_far s (Due name seq due) tt)
sound_one b es so_far next (GivenUp name moment) may s h = subst (IsSound b (es ++ GivenUp name moment ∷ [])) (cc) (sound_change b es so_far s (GivenUp name moment) tt)
sound_one b es so_far next (Now moment) may s h = subst (IsSound b (es ++ Now moment ∷ [])) (cc) (sound_change b es so_far s (Now moment) tt)

-- nothing is planned behind a message without a place
pub planned_none : (b : Blocks) (es : List Effect) → planned b es None ≡ None
planned_none b [] = refl
planned_none b (e ∷ es) = planned_none b es

sound_all : (b : Blocks) (es done : List Effect) (so_far made : Planned) → IsTrue (list_all is_record es) → IsSound b done so_far → planned b es (Some so_far) ≡ Some made → IsSound b (done ++ es) made
sound_all b [] done so_far made may s h = subst (λ (l : List Effect). IsSound b l made) (sym (append_nil done)) (subst (IsSound b done) (cc) s)
  where
    append_nil : (xs : List Effect) → xs ++ [] ≡ xs
    append_nil [] = refl
    append_nil (x ∷ xs) = ap (λ (l : List Effect). x ∷ l) (append_nil xs)
sound_all b (e ∷ es) done so_far made may s h =
    go (planned_one b so_far e) refl h (λ next one more. sound_all b es (done ++ e ∷ []) next made (and_parts (is_record e) (list_all is_record es) may).1 one more)
  where
    joined : (xs : List Effect) → (xs ++ e ∷ []) ++ es ≡ xs ++ e ∷ es
    joined [] = refl
    joined (x ∷ xs) = ap (λ (l : List Effect). x ∷ l) (joined xs)

    none_some : (x : Planned) → None ≡ Some x → ⊥
    none_some x e = cc

    go : (o : Option Planned) → planned_one b so_far e ≡ o → planned b es o ≡ Some made →
        ((next : Planned) → IsSound b (done ++ e ∷ []) next → planned b es (Some next) ≡ Some made → IsSound b ((done ++ e ∷ []) ++ es) made) → IsSound b (done ++ e ∷ es) made
    go None is more rest = let none = planned_none b es in absurd (none_some made (sym none ∙ more))
    go (Some next) is more rest =
        subst (λ (l : List Effect). IsSound b l made) (joined done)
        (rest next (sound_one b done so_far next e (and_parts (is_record e) (list_all is_record es) may).0 s is) more)

-- the file of a run is none of a log
file_of : (b : Blocks) → IsTable b → (run : Run) → IsPlaced b run → 2 ≤ run.file
file_of b table run placed = go (or_cases (goes_on (spot_of run) b.writing) (begins (spot_of run) b) placed)
  where
    on : (w : Option Block) → b.writing ≡ w → goes_on (spot_of run) w ≡ true → 2 ≤ run.file
    on None is h = absurd (true≢false (sym h))
    on (Some k) is h =
        let same = eqb-true run.file k.file (and_parts (run.file == k.file) (run.at == k.end) h).0 in
        let low = (all_last (λ (x : Block). IsFile x.file) b.older k (subst (λ (o : Option Block). All (λ (x : Block). IsFile x.file) (b.older ++ option_to_list o)) is table.blocks_are.files)).low in
        omega (arith, same, low)

    go : (goes_on (spot_of run) b.writing ≡ true) ⊎ (begins (spot_of run) b ≡ true) → 2 ≤ run.file
    go (inl h) = on b.writing refl h
    go (inr h) =
        let free = and_parts _ _ h in
        let high = and_parts _ _ free.0 in
        leb-true 2 run.file (and_parts _ _ high.0).1

pub sound_of : (b : Blocks) (es : List Effect) (made : Planned) → ArePlannedBy b es made → IsSound b es made
sound_of b es made h = sound_all b es [] (begun b) made h.allowed (record { runs = sound_first b; stored = tt }) h.made_is

pub runs_of : (b : Blocks) (es : List Effect) (made : Planned) → ArePlannedBy b es made → AreRuns b es made
runs_of b es made h =
    let s = sound_of b es made h in
    record {
      placed = s.runs.placed;
      files = All-weaker (IsPlaced b) (λ (run : Run). 2 ≤ run.file) (file_of b h.table) made.runs s.runs.placed;
      short = All-weaker IsSmall IsShort (λ run small. omega (arith, small)) made.runs s.runs.small;
      apart = s.runs.apart;
      stored = s.stored;
    }
