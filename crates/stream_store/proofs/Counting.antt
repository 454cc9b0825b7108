-- How many files are in use behind changes, and how many blocks their commit leaves.
use Rattle.std.proofs.Common.{◌≡◌, ◌⊎◌, inl, inr, ◌≤◌, ◌<◌, ℕ, ◌+◌, ◌==◌, ◌&&◌, ◌||◌, Bool, true, false, cond, List, [], ◌∷◌, ◌++◌, Option, Some, None, IfSome, length, option_map, refl, sym, ap, subst, ◌∙◌, arith}
use Rattle.std.specs.Prelude.{is_some, unwrap_or}
use Rattle.std.proofs.lemmas.Bool.{true≢false, and_parts, and_from, or_cases, eq-eqb, eqb-true}
use Rattle.js_base.specs.Bytes.{Bytes}
use Rattle.js_base.specs.declared.spot.Spot.{Spot}
use Rattle.js_model.proofs.Named.{some_is, none_some}
use Rattle.effects.specs.declared.effect.Effect.{Effect}
use Rattle.effects.specs.declared.effect.Effect.TheVariants.{MakeStream, ChangeStream, DropStream, PutHere, Skip, Remove, MakeConsumer, DropConsumer, Deliver, Acked, Due, GivenUp, Now}
use Rattle.op_records.specs.Allowed.{is_put}
use Rattle.op_records.specs.Blocks.{spelled_message}
use Rattle.op_records.specs.declared.record.Record.{Record}
use Rattle.op_records.proofs.BlockSizes.{spelled_len}
use Rattle.block_table.specs.declared.block.Block.{Block}
use Rattle.block_table.specs.declared.placing.Placing.{Placing}
use Rattle.block_table.specs.Blocks.{Blocks, blocks, no_blocks}
use Rattle.block_table.specs.Placings.{free_from, place, place_at, place_on, placing, stays}
use Rattle.block_table.specs.Puts.{begins, fits, goes_on, is_above, put, put_at}
use Rattle.block_table.specs.Rooms.{in_use}
use Rattle.block_table.proofs.Closing.{law_closed}
use Rattle.block_table.proofs.InUse.{put_at_count, put_on_count, removed_count}
use Rattle.block_table.proofs.Ranges.{begun_at}
use Rattle.block_table.proofs.Rooms.{law_room}
use Rattle.block_writing.specs.Planning.{Planned, begun, message_by, spots_in}
use Rattle.stream_store.specs.Laws.{LawCounting}
use Rattle.stream_store.specs.Placing.{blocks_by, blocks_then, can_place, has_room, placing_behind, placing_then, plan_of, spot_by, used_behind, used_by}
use Rattle.stream_store.specs.Steps.{steps_of, with_steps}
use Rattle.stream_store.proofs.Closing.{batch_closes}
use Rattle.stream_store.proofs.Folding.{AreNext, Moves, goes_on_by}
use Rattle.stream_store.proofs.Recorded.{steps_one, steps_then}
use Rattle.stream_store.proofs.Placings.{placing_push, planned_placing, then_placing}

-- ---- what is in use

same_use : (b : Blocks) (e : Effect) (p : Placing) → is_put e ≡ false → used_by b (placing_then b p e) ≡ in_use b p
same_use b (MakeStream incarnation made config) p plain = refl
same_use b (ChangeStream config) p plain = refl
same_use b DropStream p plain = refl
same_use b (PutHere seq at id subject headers payload) p plain = absurd (true≢false plain)
same_use b (Skip seq at id) p plain = refl
same_use b (Remove low high) p plain = refl
same_use b (MakeConsumer name made config cursor picks) p plain = refl
same_use b (DropConsumer name) p plain = refl
same_use b (Deliver name seq count due dseq) p plain = refl
same_use b (Acked name low high) p plain = refl
same_use b (Due name seq due) p plain = refl
same_use b (GivenUp name moment) p plain = refl
same_use b (Now moment) p plain = refl

change : (b : Blocks) (es : List Effect) (e : Effect) → is_put e ≡ false → used_behind b (es ++ e ∷ []) ≡ used_behind b es
change b es e plain = ap (used_by b) (placing_push b es e) ∙ go (placing_behind b es)
  where
    go : (o : Option Placing) → used_by b (then_placing b o e) ≡ used_by b o
    go None = refl
    go (Some p) = same_use b e p plain

message : (b : Blocks) (es : List Effect) (seq at : ℕ) (id subject headers payload : Bytes) → can_place b (es ++ PutHere seq at id subject headers payload ∷ []) ≡ true
    → used_behind b (es ++ PutHere seq at id subject headers payload ∷ []) ≤ used_behind b es + 1
message b es seq at id subject headers payload can =
    subst (λ (n : ℕ). n ≤ used_behind b es + 1) (sym (ap (used_by b) (placing_push b es (PutHere seq at id subject headers payload)))) (go (placing_behind b es))
  where
    len : ℕ
    len = length (spelled_message (message_by seq at subject headers payload))

    one : (p : Placing) (o : Option (Spot × Placing)) → IfSome o (λ r. in_use b r.1 ≤ in_use b p + 1) → used_by b (option_map (λ (r : Spot × Placing). r.1) o) ≤ in_use b p + 1
    one p None h = omega arith
    one p (Some r) h = h

    go : (o : Option Placing) → used_by b (then_placing b o (PutHere seq at id subject headers payload)) ≤ used_by b o + 1
    go None = omega arith
    go (Some p) = one p (place b len p) (law_room.one b p len)

room : (b : Blocks) (es : List Effect) → can_place b es ≡ true → used_behind b es < 65534 → (len : ℕ) → has_room b es len ≡ true
room b es can few len = go (placing_behind b es) refl
  where
    mapped : (o : Option (Spot × Placing)) → is_some (option_map (λ (r : Spot × Placing). r.0) o) ≡ is_some o
    mapped None = refl
    mapped (Some r) = refl

    go : (o : Option Placing) → placing_behind b es ≡ o → has_room b es len ≡ true
    go None is = absurd (true≢false (sym can ∙ planned_placing b es ∙ ap is_some is))
    go (Some p) is = ap (λ (o : Option Placing). is_some (spot_by b len o)) is ∙ mapped (place b len p) ∙ law_room.room b p len (subst (λ (o : Option Placing). used_by b o < 65534) is few)

-- ---- what a commit leaves

-- behind some steps there are no more blocks than are in use; and a message that is placed at the beginning of a block that is written goes on in the table too
record IsCounted (before : Blocks) (p : Placing) (c : Blocks) : Type 0 where
  count : length (blocks c) ≤ in_use before p
  first : (w : Block) → p.writing ≡ Some w → w.end ≡ 0 → c.writing ≡ Some w

counted_first : (b : Blocks) → IsCounted b (placing b) b
counted_first b = record { count = omega (arith, law_room.first b); first = λ w is none. is }

-- a block in which something is placed is written further than 0
written : (file end : ℕ) (c : Blocks) → 1 ≤ end → (w : Block) → Some (record { file = file; end = end }) ≡ Some w → w.end ≡ 0 → c.writing ≡ Some w
written file end c some w is none = let same : end ≡ w.end = ap (λ (k : Block). k.end) (some_is is) in absurd (omega (arith, some, same, none))

-- a message that does not fit is left out
abbrev taken_if : Bool → Blocks → Blocks → Blocks
taken_if t c d = unwrap_or (cond t (Some d) None) c

module _ (before : Blocks) (p : Placing) (c : Blocks) (seq len : ℕ) (k : IsCounted before p c) (some : 1 ≤ len) where
  -- it goes on in the block being written
  module _ (w : Block) (is : p.writing ≡ Some w) where
    abbrev spot_on : Spot
    spot_on = record { file = w.file; at = w.end; len = len }

    abbrev placed_on : Placing
    placed_on = record { from = p.from; writing = Some (record { file = w.file; end = w.end + len }) }

    on_too : fits seq spot_on c ≡ true → goes_on spot_on c.writing ≡ true
    on_too f = go (or_cases (goes_on spot_on c.writing) (begins spot_on c) (and_parts (is_above seq c.placed && _) (goes_on spot_on c.writing || begins spot_on c) f).1)
      where
        go : (goes_on spot_on c.writing ≡ true) ⊎ (begins spot_on c ≡ true) → goes_on spot_on c.writing ≡ true
        go (inl on) = on
        go (inr begin) =
            let free = and_parts _ _ begin in
            let high = and_parts _ _ free.0 in
            let low = and_parts (w.end == 0) _ high.0 in
            ap (goes_on spot_on) (k.first w is (eqb-true w.end 0 low.0)) ∙ and_from (w.file == w.file) (w.end == w.end) (eq-eqb w.file w.file refl) (eq-eqb w.end w.end refl)

    counted_on : IsCounted before placed_on (unwrap_or (put seq spot_on c) c)
    counted_on = go (fits seq spot_on c) refl
      where
        go : (t : Bool) → fits seq spot_on c ≡ t → IsCounted before placed_on (taken_if t c (put_at seq spot_on c))
        go true f = record {
          count = let fewer = put_on_count seq spot_on c (on_too f) in let most = k.count in omega (arith, fewer, most);
          first = written w.file (w.end + len) (put_at seq spot_on c) (omega (arith, some));
        }
        go false f = record { count = k.count; first = written w.file (w.end + len) c (omega (arith, some)) }

  -- it begins a file
  module _ (file : ℕ) (is : free_from p.from before ≡ Some file) where
    abbrev spot_at : Spot
    spot_at = record { file = file; at = 0; len = len }

    abbrev placed_at : Placing
    placed_at = record { from = file + 1; writing = Some (record { file = file; end = len }) }

    counted_at : IsCounted before placed_at (unwrap_or (put seq spot_at c) c)
    counted_at = go (fits seq spot_at c)
      where
        go : (t : Bool) → IsCounted before placed_at (taken_if t c (put_at seq spot_at c))
        go true = record {
          count = let one = put_at_count seq spot_at c in let most = k.count in let more = begun_at before p.from file is in omega (arith, one, most, more);
          first = written file len (put_at seq spot_at c) some;
        }
        go false = record { count = let most = k.count in let more = begun_at before p.from file is in omega (arith, most, more); first = written file len c some }

  put_counted : (spot : Spot) (q : Placing) → place before len p ≡ Some (spot, q) → IsCounted before q (unwrap_or (put seq spot c) c)
  put_counted spot q h = go (stays len p.writing) refl h
    where
      Result : Spot × Placing → Type 0
      Result r = IsCounted before r.1 (unwrap_or (put seq r.0 c) c)

      on : (o : Option Block) → p.writing ≡ o → place_on len p o ≡ Some (spot, q) → IsCounted before q (unwrap_or (put seq spot c) c)
      on None is e = absurd (none_some e)
      on (Some w) is e = subst Result (some_is e) (counted_on w is)

      new : (o : Option ℕ) → free_from p.from before ≡ o → option_map (place_at len) o ≡ Some (spot, q) → IsCounted before q (unwrap_or (put seq spot c) c)
      new None is e = absurd (none_some e)
      new (Some file) is e = subst Result (some_is e) (counted_at file is)

      go : (g : Bool) → stays len p.writing ≡ g → cond g (place_on len p p.writing) (option_map (place_at len) (free_from p.from before)) ≡ Some (spot, q)
          → IsCounted before q (unwrap_or (put seq spot c) c)
      go true e h = on p.writing refl h
      go false e h = new (free_from p.from before) refl h

module _ (b : Blocks) (p : Placing) (c : Blocks) (k : IsCounted b p c) where
  still : (q : Placing) → q ≡ p → IsCounted b q c
  still q same = subst (λ (r : Placing). IsCounted b r c) (sym same) k

  cleared : (q : Placing) → q ≡ record { from = p.from; writing = None } → IsCounted b q no_blocks
  cleared q same = subst (λ (r : Placing). IsCounted b r no_blocks) (sym same) (record { count = omega arith; first = λ w is none. absurd (none_some is) })

  counted_one : (e : Effect) (spot : Spot) (q : Placing) → Moves b e p spot q → IsCounted b q (with_steps (steps_one e spot) c)
  counted_one (MakeStream incarnation made config) spot q moves = cleared q moves
  counted_one (ChangeStream config) spot q moves = still q moves
  counted_one DropStream spot q moves = cleared q moves
  counted_one (PutHere seq at id subject headers payload) spot q moves =
      let size = spelled_len (message_by seq at subject headers payload) in
      put_counted b p c seq (length (spelled_message (message_by seq at subject headers payload))) k (omega (arith, size)) spot q moves
  counted_one (Skip seq at id) spot q moves = still q moves
  counted_one (Remove low high) spot q moves =
      let fewer = removed_count low high c in
      let most = k.count in
      subst (λ (r : Placing). IsCounted b r (with_steps (steps_one (Remove low high) spot) c)) (sym moves) (record { count = omega (arith, fewer, most); first = k.first })
  counted_one (MakeConsumer name made config cursor picks) spot q moves = still q moves
  counted_one (DropConsumer name) spot q moves = still q moves
  counted_one (Deliver name seq count due dseq) spot q moves = still q moves
  counted_one (Acked name low high) spot q moves = still q moves
  counted_one (Due name seq due) spot q moves = still q moves
  counted_one (GivenUp name moment) spot q moves = still q moves
  counted_one (Now moment) spot q moves = still q moves

counted_all : (b : Blocks) (es : List Effect) (p : Placing) (rs : List Record) (q : Placing) (c : Blocks) → AreNext b es p rs q → IsCounted b p c → IsCounted b q (with_steps (steps_of es (spots_in rs)) c)
counted_all b [] p rs q c (none, same) k =
    subst (λ (l : List Record). IsCounted b q (with_steps (steps_of [] (spots_in l)) c)) (sym none) (subst (λ (r : Placing). IsCounted b r c) (sym same) k)
counted_all b (e ∷ es) p rs q c (spot, mid, more, is, moves, rest) k =
    subst (λ (l : List Record). IsCounted b q (with_steps (steps_of (e ∷ es) (spots_in l)) c)) (sym is)
    (subst (IsCounted b q) (sym (steps_then e spot es more c)) (counted_all b es mid more q (with_steps (steps_one e spot) c) rest (counted_one b p c k e spot mid moves)))

commit : (b : Blocks) (es : List Effect) → can_place b es ≡ true → length (blocks (blocks_then b es)) ≤ used_behind b es
commit b es can = go (plan_of b es) refl
  where
    Counts : Option Planned → Type 0
    Counts o = length (blocks (blocks_by b es o)) ≤ used_by b (option_map (λ (made : Planned). made.placing) o)

    go : (o : Option Planned) → plan_of b es ≡ o → length (blocks (blocks_then b es)) ≤ used_behind b es
    go None is = absurd (true≢false (sym can ∙ ap is_some is))
    go (Some made) is =
        let g = goes_on_by b es (begun b) made is in
        let next = subst (λ (l : List Record). AreNext b es (placing b) l made.placing) (sym g.records) g.next in
        let all = with_steps (steps_of es (spots_in made.records)) b in
        let most = (counted_all b es (placing b) made.records made.placing b next (counted_first b)).count in
        let fewer = law_closed.fewer all in
        subst Counts (sym is) (subst (λ (c : Blocks). length (blocks c) ≤ in_use b made.placing) (sym (batch_closes es (spots_in made.records) b)) (omega (arith, most, fewer)))

pub law_counting : LawCounting
law_counting = record { none = λ b. law_room.first b; change = change; message = message; room = room; commit = commit }
