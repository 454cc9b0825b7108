-- Blocks that were read one after the other.
use Rattle.std.proofs.Common.{◌≡◌, ◌<◌, ◌≤◌, ℕ, zero, suc, ◌+◌, min, List, [], ◌∷◌, ◌++◌, Option, Some, None, All, length, take, drop, get_or, refl, sym, ap, subst, ◌∙◌, arith, take-append-drop, drop-cons}
use Rattle.std.specs.Option.{option_to_list}
use Rattle.std.proofs.lemmas.List.{take_min, take_more, take_all}
use Rattle.std.proofs.lemmas.List.Elements.{All-append, All-cons, All-nil, All-push}
use Rattle.js_base.specs.Bytes.{Bytes}
use Rattle.vol_disk.specs.Disk.{Files}
use Rattle.block_table.specs.declared.block.Block.{Block}
use Rattle.block_table.specs.Blocks.{Blocks, blocks}
use Rattle.block_reading.specs.Standing.{IsWhole}
use Rattle.block_reading.specs.Reading.{IsBlockFault, IsCheckFault}
use Rattle.block_reading.specs.declared.fault.MessagesFault.{MessagesFault}
use Rattle.block_reading.specs.declared.fault.MessagesFault.TheVariants.{Fault, Damaged, NoMemory as OutOfMemory}

-- a list is the first of it, one, and the rest
pub parts : {X : Type 0} (xs : List X) (i : ℕ) (x : X) → i < length xs → x ≡ get_or xs i x → take i xs ++ (x ∷ drop (suc i) xs) ≡ xs
parts {X} xs i x within is =
    ap (λ (y : X). take i xs ++ (y ∷ drop (suc i) xs)) is ∙ ap (λ (l : List X). take i xs ++ l) (sym (drop-cons xs i x within)) ∙ take-append-drop i xs

-- an item, by its place
pub item_is : {X : Type 0} (xs ys : List X) (i : ℕ) (d : X) → xs ≡ ys → i < length xs → get_or xs i d ≡ get_or ys i (get_or xs i d)
item_is {X} xs ys i d same within = subst (λ (l : List X). get_or xs i d ≡ get_or l i (get_or xs i d)) same (itself xs i d within)
  where
    itself : (zs : List X) (j : ℕ) (e : X) → j < length zs → get_or zs j e ≡ get_or zs j (get_or zs j e)
    itself [] j e inside = absurd (omega (arith, inside))
    itself (z ∷ zs) zero e inside = refl
    itself (z ∷ zs) (suc j) e inside = itself zs j e (omega (arith, inside))

pub one_more : {X : Type 0} (xs : List X) (i : ℕ) (x : X) → i < length xs → x ≡ get_or xs i x → take (i + 1) xs ≡ take i xs ++ x ∷ []
one_more {X} xs i x within is = take_more xs i x within ∙ ap (λ (y : X). take i xs ++ y ∷ []) (sym is)

-- a file up to an end
pub up_to : (end count : ℕ) (xs : Bytes) → count ≡ min (length xs) end → take count (drop 0 xs) ≡ take end xs
up_to end count xs is = ap (λ (n : ℕ). take n xs) (is ∙ omega arith) ∙ take_min end xs

module _ (image : Files) (last : ℕ) where
  pub whole_more : (ks : List Block) (i : ℕ) (k : Block) → i < length ks → k ≡ get_or ks i k → All (IsWhole image last) (take i ks) → IsWhole image last k → All (IsWhole image last) (take (i + 1) ks)
  whole_more ks i k within is all one =
      subst (All (IsWhole image last)) (sym (take_more ks i k within))
      (All-push (IsWhole image last) (take i ks) (get_or ks i k) all (subst (IsWhole image last) is one))

  -- a block with its fault, behind some that are whole
  pub bad_behind : (before : List Block) (k : Block) (after : List Block) (fault : MessagesFault) → All (IsWhole image last) before → IsBlockFault image last k fault →
      IsCheckFault image last (before ++ k ∷ after) fault
  bad_behind before k after Fault all h = tt
  bad_behind before k after (Damaged file at) all h = record {
    before = before;
    block = k;
    after = after;
    blocks_are = refl;
    whole = all;
    wrong = h.1;
    file_is = h.0;
  }
  bad_behind before k after OutOfMemory all h = tt

  pub bad_at : (ks more : List Block) (i : ℕ) (k : Block) (fault : MessagesFault) → i < length ks → k ≡ get_or ks i k → All (IsWhole image last) (take i ks) → IsBlockFault image last k fault →
      IsCheckFault image last (ks ++ more) fault
  bad_at ks more i k fault within is all h =
      subst (λ (l : List Block). IsCheckFault image last l fault)
      (same (take i ks) (drop (suc i) ks) ∙ ap (λ (l : List Block). l ++ more) (parts ks i k within is))
      (bad_behind (take i ks) k (drop (suc i) ks ++ more) fault all h)
    where
      same : (xs ys : List Block) → xs ++ (k ∷ (ys ++ more)) ≡ (xs ++ (k ∷ ys)) ++ more
      same [] ys = refl
      same (x ∷ xs) ys = ap (λ (l : List Block). x ∷ l) (same xs ys)

  whole_all : (ks more : List Block) (i : ℕ) → length ks ≤ i → All (IsWhole image last) (take i ks) → All (IsWhole image last) more → All (IsWhole image last) (ks ++ more)
  whole_all ks more i past all rest = All-append (IsWhole image last) ks more (subst (All (IsWhole image last)) (take_all i ks past) all) rest

  -- the block being written is the last of them
  pub written_bad : (b : Blocks) (i : ℕ) (k : Block) (fault : MessagesFault) → length b.older ≤ i → Some k ≡ b.writing → All (IsWhole image last) (take i b.older) → IsBlockFault image last k fault →
      IsCheckFault image last (blocks b) fault
  written_bad b i k fault past is all h =
      subst (λ (o : Option Block). IsCheckFault image last (b.older ++ option_to_list o) fault) is
      (bad_behind b.older k [] fault (subst (All (IsWhole image last)) (take_all i b.older past) all) h)

  pub written_whole : (b : Blocks) (i : ℕ) (k : Block) → length b.older ≤ i → Some k ≡ b.writing → All (IsWhole image last) (take i b.older) → IsWhole image last k → All (IsWhole image last) (blocks b)
  written_whole b i k past is all one =
      subst (λ (o : Option Block). All (IsWhole image last) (b.older ++ option_to_list o)) is
      (whole_all b.older (k ∷ []) i past all (All-cons (IsWhole image last) k [] one (All-nil (IsWhole image last))))

  pub none_written : (b : Blocks) (i : ℕ) → length b.older ≤ i → None ≡ b.writing → All (IsWhole image last) (take i b.older) → All (IsWhole image last) (blocks b)
  none_written b i past is all =
      subst (λ (o : Option Block). All (IsWhole image last) (b.older ++ option_to_list o)) is (whole_all b.older [] i past all (All-nil (IsWhole image last)))
