-- A table that is made again: its blocks and messages come one by one, and each message lies in its block.
use Rattle.std.proofs.Common.{◌≡◌, ◌↔◌, ℕ, ◌+◌, ◌<◌, ◌≤◌, ◌^◌, ◌==◌, ◌&&◌, ◌||◌, Bool, true, false, cond, not, List, [], ◌∷◌, ◌++◌, take, drop, length, map, get_or, Option, Some, None, refl, sym, ap, subst, ◌∙◌, arith}
use Rattle.std.specs.Prelude.{All, find, nat_le, option_map}
use Rattle.std.specs.List.{list_any, list_all, AllByRecursion}
use Rattle.std.specs.List.Sorted.{IsStrictlySortedBy}
use Rattle.std.specs.Option.{option_to_list}
use Rattle.std.specs.Ordering.{nat_cmp}
use Rattle.std.specs.declared.cmp.Ordering.TheVariants.{Less}
use Rattle.std.proofs.lemmas.Bool.{true≢false, or_parts, or_from, and_parts, eqb-true, leb-false}
use Rattle.std.proofs.lemmas.Bool.Decides.{nat_tests}
use Rattle.std.proofs.lemmas.List.{take_more, drop_more, take-append-drop, append_assoc}
use Rattle.std.proofs.lemmas.List.Elements.{All-head, All-tail, All-nil, All-cons, All-push}
use Rattle.std.proofs.lemmas.List.Sums.{AllPass-from_list_all, list_all-from_AllPass}
use Rattle.js_base.specs.declared.spot.Spot.{Spot}
use Rattle.block_table.specs.declared.block.Block.{Block}
use Rattle.block_table.specs.declared.ends.FileEnds.{FileEnds}
use Rattle.block_table.specs.declared.placed.Placed.{Placed}
use Rattle.block_table.specs.Blocks.{is_among, is_used}
use Rattle.block_table.specs.Puts.{end_of, is_above, with_placed}
use Rattle.block_table.specs.Restoring.{AreEnds, EndsWith, IsNewBlock, end_at, end_in, is_within, lies_at, table_of}
use Rattle.block_table.specs.Tables.{AreApart, AreBlocks, AreRising, IsFile, IsTable, lies_in}
use Rattle.block_table.proofs.Apart.{apart_with, covers, lies_among}
use Rattle.block_table.proofs.Tables.{rising_more}

-- ---- how far a file is written

none_among : (ks : List Block) (file : ℕ) → end_in ks file ≡ None → is_among ks file ≡ false
none_among [] file h = refl
none_among (k ∷ ks) file h = go (k.file == file) h (none_among ks file)
  where
    go : (b : Bool) → option_map (λ (x : Block). x.end) (cond b (Some k) (find (λ x. x.file == file) ks)) ≡ None → (end_in ks file ≡ None → is_among ks file ≡ false) → (b || is_among ks file) ≡ false
    go true e rest = absurd cc
    go false e rest = rest e

among_none : (ks : List Block) (file : ℕ) → is_among ks file ≡ false → end_in ks file ≡ None
among_none [] file h = refl
among_none (k ∷ ks) file h = go (k.file == file) (or_parts (k.file == file) (is_among ks file) h) (among_none ks file)
  where
    go : (b : Bool) → (b ≡ false) × (is_among ks file ≡ false) → (is_among ks file ≡ false → end_in ks file ≡ None) → option_map (λ (x : Block). x.end) (cond b (Some k) (find (λ x. x.file == file) ks)) ≡ None
    go true parts rest = absurd (true≢false parts.0)
    go false parts rest = rest parts.1

turned : (m n : ℕ) → (m == n) ≡ (n == m)
turned m n = grind (arith, nat_tests)

other_file : (x k file : ℕ) → (x == k) ≡ false → (x == file) ≡ true → (file == k) ≡ false
other_file x k file apart same = grind (arith, nat_tests, apart, same)

-- a block more, in a file of its own
end_more : (ks : List Block) (k : Block) (file : ℕ) → is_among ks k.file ≡ false → cond (file == k.file) (Some k.end) (end_in ks file) ≡ end_in (ks ++ k ∷ []) file
end_more [] k file absent = go (file == k.file) (k.file == file) (turned file k.file)
  where
    go : (b c : Bool) → b ≡ c → cond b (Some k.end) None ≡ option_map (λ (x : Block). x.end) (cond c (Some k) None)
    go true true e = refl
    go true false e = absurd (true≢false e)
    go false true e = absurd (true≢false (sym e))
    go false false e = refl
end_more (x ∷ ks) k file absent = go (x.file == file) refl (end_more ks k file parts.1)
  where
    parts : ((x.file == k.file) ≡ false) × (is_among ks k.file ≡ false)
    parts = or_parts (x.file == k.file) (is_among ks k.file) absent

    go : (b : Bool) → (x.file == file) ≡ b → cond (file == k.file) (Some k.end) (end_in ks file) ≡ end_in (ks ++ k ∷ []) file
        → cond (file == k.file) (Some k.end) (option_map (λ (y : Block). y.end) (cond b (Some x) (find (λ y. y.file == file) ks)))
        ≡ option_map (λ (y : Block). y.end) (cond b (Some x) (find (λ y. y.file == file) (ks ++ k ∷ [])))
    go true e rest = ap (λ (b : Bool). cond b (Some k.end) (Some x.end)) (other_file x.file k.file file parts.0 e)
    go false e rest = rest

-- ---- blocks one by one

abbrev EndsLow : Block → Type 0
EndsLow k = k.end < 2 ^ 32

pub no_ends : (ends : FileEnds) → ((file : ℕ) → end_at ends file ≡ None) → AreEnds [] ends
no_ends ends none = record { blocks = record { apart = tt; files = All-nil (λ (k : Block). IsFile k.file); ends = All-nil EndsLow }; at = none }

pub ends_more : (ks : List Block) (k : Block) (old new : FileEnds) → AreEnds ks old → IsNewBlock old k → EndsWith old k new → AreEnds (ks ++ k ∷ []) new
ends_more ks k old new h n added =
    let absent : is_among ks k.file ≡ false = none_among ks k.file (sym (h.at k.file) ∙ n.absent) in
    record {
      blocks = record { apart = apart_with ks k h.blocks.apart absent; files = All-push (λ (x : Block). IsFile x.file) ks k h.blocks.files n.file; ends = All-push EndsLow ks k h.blocks.ends n.low };
      at = λ file. added file ∙ ap (λ (o : Option ℕ). cond (file == k.file) (Some k.end) o) (h.at file) ∙ end_more ks k file absent;
    }

apart_at : (ks : List Block) (k : Block) (more : List Block) → AreApart (ks ++ k ∷ more) → is_among ks k.file ≡ false
apart_at [] k more h = refl
apart_at (x ∷ ks) k more h = or_from (x.file == k.file) (is_among ks k.file) (turned x.file k.file ∙ last ks h.0) (apart_at ks k more h.1)
  where
    last : (ys : List Block) → is_among (ys ++ k ∷ more) x.file ≡ false → (k.file == x.file) ≡ false
    last [] e = (or_parts (k.file == x.file) (is_among more x.file) e).0
    last (y ∷ ys) e = last ys (or_parts (y.file == x.file) (is_among (ys ++ k ∷ more) x.file) e).1

each_at : (P : Block → Type 0) (ks : List Block) (k : Block) (more : List Block) → All P (ks ++ k ∷ more) → P k
each_at P [] k more h = All-head P k more h
each_at P (x ∷ ks) k more h = each_at P ks k more (All-tail P x (ks ++ k ∷ more) h)

not_all : (ks : List Block) (k : Block) (more : List Block) (ends : FileEnds) → AreEnds ks ends → ¬ IsNewBlock ends k → ¬ AreBlocks (ks ++ k ∷ more)
not_all ks k more ends h bad are =
    bad (record { file = each_at (λ (x : Block). IsFile x.file) ks k more are.files; absent = h.at k.file ∙ among_none ks k.file (apart_at ks k more are.apart); low = each_at EndsLow ks k more are.ends })

-- ---- a list that a loop goes through: what came before, the one at hand, and the rest

list_at : {X : Type 0} (xs : List X) (i : ℕ) (d : X) → i < length xs → xs ≡ take i xs ++ get_or xs i d ∷ drop (i + 1) xs
list_at xs i d within = sym (take-append-drop i xs) ∙ ap (λ (ys : List _). take i xs ++ ys) (drop_more xs i d within)

pub block_added : (ks : List Block) (i : ℕ) (d : Block) (old new : FileEnds) → i < length ks → AreEnds (take i ks) old → IsNewBlock old (get_or ks i d) → EndsWith old (get_or ks i d) new → AreEnds (take (i + 1) ks) new
block_added ks i d old new within h n added = subst (λ (l : List Block). AreEnds l new) (sym (take_more ks i d within)) (ends_more (take i ks) (get_or ks i d) old new h n added)

pub block_misfits : (ks more : List Block) (i : ℕ) (d : Block) (ends : FileEnds) → i < length ks → AreEnds (take i ks) ends → ¬ IsNewBlock ends (get_or ks i d) → ¬ AreBlocks (ks ++ more)
block_misfits ks more i d ends within h bad are =
    not_all (take i ks) (get_or ks i d) (drop (i + 1) ks ++ more) ends h bad
    (subst AreBlocks (ap (λ (l : List Block). l ++ more) (list_at ks i d within) ∙ append_assoc (take i ks) (get_or ks i d ∷ drop (i + 1) ks) more) are)

pub last_misfits : (ks : List Block) (k : Block) (ends : FileEnds) → AreEnds ks ends → ¬ IsNewBlock ends k → ¬ AreBlocks (ks ++ k ∷ [])
last_misfits ks k ends h bad = not_all ks k [] ends h bad

-- ---- messages one by one

pub none_rise : AreRising []
unfolding IsStrictlySortedBy
none_rise = tt

not_after : (m n : ℕ) → nat_cmp m n ≡ Less → nat_le n m ≡ false
not_after m n h = grind (arith, nat_tests, h)

seqs_at : (ps : List Placed) (p : Placed) (more : List Placed) (m : ℕ) → AllByRecursion (λ k. nat_cmp m k ≡ Less) (map (λ (x : Placed). x.seq) (ps ++ p ∷ more)) → nat_cmp m p.seq ≡ Less
seqs_at [] p more m h = h.0
seqs_at (x ∷ ps) p more m h = seqs_at ps p more m h.1

rising_above : (ps : List Placed) (p : Placed) (more : List Placed) → AreRising (ps ++ p ∷ more) → is_above p.seq ps ≡ true
unfolding IsStrictlySortedBy
rising_above [] p more h = refl
rising_above (x ∷ ps) p more h =
    ap not (or_from (nat_le p.seq x.seq) (list_any (λ (y : Placed). nat_le p.seq y.seq) ps) (not_after x.seq p.seq (seqs_at ps p more x.seq h.0)) (not_false _ (rising_above ps p more h.1)))
  where
    not_false : (b : Bool) → not b ≡ true → b ≡ false
    not_false true e = sym e
    not_false false e = refl

pub not_rising : (ps : List Placed) (i : ℕ) (d : Placed) (found : List Placed) → i < length ps → found ≡ take i ps → is_above (get_or ps i d).seq found ≡ false → ¬ AreRising ps
not_rising ps i d found within so_far low h =
    true≢false (sym (rising_above (take i ps) (get_or ps i d) (drop (i + 1) ps) (subst AreRising (list_at ps i d within) h)) ∙ sym (ap (is_above (get_or ps i d).seq) so_far) ∙ low)

pub more_placed : (ps : List Placed) (i : ℕ) (d : Placed) (found : List Placed) → i < length ps → found ≡ take i ps → with_placed (get_or ps i d).seq (get_or ps i d).spot found ≡ take (i + 1) ps
more_placed ps i d found within so_far = ap (λ (qs : List Placed). qs ++ get_or ps i d ∷ []) so_far ∙ sym (take_more ps i d within)

pub rising_next : (ps : List Placed) (i : ℕ) (d : Placed) (found : List Placed) → i < length ps → found ≡ take i ps → AreRising (take i ps) → is_above (get_or ps i d).seq found ≡ true → AreRising (take (i + 1) ps)
rising_next ps i d found within so_far rising above =
    subst AreRising (sym (take_more ps i d within)) (rising_more (get_or ps i d).seq (get_or ps i d).spot (take i ps) rising (sym (ap (is_above (get_or ps i d).seq) so_far) ∙ above))

-- ---- each message in its block

none_lies : (ks : List Block) (spot : Spot) → is_among ks spot.file ≡ false → lies_in ks spot ≡ false
none_lies ks spot h = go (lies_in ks spot) (lies_among spot ks)
  where
    go : (b : Bool) → (b ≡ true → is_among ks spot.file ≡ true) → b ≡ false
    go true f = sym (f refl) ∙ h
    go false f = refl

lies_is : (ks : List Block) (spot : Spot) → AreApart ks → lies_in ks spot ≡ is_within (end_of spot) (end_in ks spot.file)
lies_is [] spot h = refl
lies_is (k ∷ ks) spot h = go (k.file == spot.file) refl (lies_is ks spot h.1)
  where
    go : (b : Bool) → (k.file == spot.file) ≡ b → lies_in ks spot ≡ is_within (end_of spot) (end_in ks spot.file)
        → ((b && nat_le (end_of spot) k.end) || lies_in ks spot) ≡ is_within (end_of spot) (option_map (λ (x : Block). x.end) (cond b (Some k) (find (λ x. x.file == spot.file) ks)))
    go true e rest = alone (nat_le (end_of spot) k.end) (none_lies ks spot (ap (is_among ks) (sym (eqb-true k.file spot.file e)) ∙ h.0))
      where
        alone : (c : Bool) {d : Bool} → d ≡ false → (c || d) ≡ c
        alone true f = refl
        alone false f = f
    go false e rest = rest

pub lies_here : (ks : List Block) (ends : FileEnds) (spot : Spot) → AreEnds ks ends → lies_at ends spot ≡ lies_in ks spot
lies_here ks ends spot h = ap (is_within (end_of spot)) (h.at spot.file) ∙ sym (lies_is ks spot h.blocks.apart)

-- ---- the table

pub restored : (placed : List Placed) (older : List Block) (writing : Option Block) (ends : FileEnds) → AreRising placed → AreEnds (older ++ option_to_list writing) ends
    → list_all (λ p. lies_at ends p.spot) placed ≡ true → list_all (λ k. is_used placed k.file) older ≡ true → IsTable (table_of placed older writing)
restored placed older writing ends rising are inside held =
    let ks = older ++ option_to_list writing in
    record {
      rising = rising;
      blocks_are = are.blocks;
      inside = λ k d within. sym (lies_here ks ends _ are) ∙ AllPass-from_list_all (λ (p : Placed). lies_at ends p.spot) placed inside k d within;
      held = AllPass-from_list_all (λ (k : Block). is_used placed k.file) older held;
    }

pub all_inside : (placed : List Placed) (older : List Block) (writing : Option Block) (ends : FileEnds) → AreEnds (older ++ option_to_list writing) ends → IsTable (table_of placed older writing) → list_all (λ p. lies_at ends p.spot) placed ≡ true
all_inside placed older writing ends are h =
    list_all-from_AllPass (λ (p : Placed). lies_at ends p.spot) placed (λ k d within. lies_here (older ++ option_to_list writing) ends _ are ∙ h.inside k d within)

pub all_held : (placed : List Placed) (older : List Block) (writing : Option Block) → IsTable (table_of placed older writing) → list_all (λ k. is_used placed k.file) older ≡ true
all_held placed older writing h = list_all-from_AllPass (λ (k : Block). is_used placed k.file) older h.held
