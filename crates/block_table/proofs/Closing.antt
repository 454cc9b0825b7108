-- The table at the end of a batch.
use Rattle.std.proofs.Common.{◌≡◌, ◌⊎◌, inl, inr, ℕ, min, ◌<◌, ◌≤◌, ◌^◌, ◌==◌, ◌&&◌, ◌||◌, Bool, true, false, cond, not, List, [], ◌∷◌, ◌++◌, Option, Some, None, length, refl, sym, ap, ◌∙◌, subst, arith, length-append}
use Rattle.std.specs.Prelude.{All, nat_le}
use Rattle.std.specs.Option.{option_to_list}
use Rattle.std.proofs.lemmas.Bool.{true≢false, or_parts, or_left, and_parts, eqb-true, eq-eqb, not-true}
use Rattle.std.proofs.lemmas.List.{append-nil}
use Rattle.std.proofs.lemmas.List.Elements.{All-nil, All-cons}
use Rattle.std.proofs.lemmas.List.Folds.{list_any-append}
use Rattle.std.proofs.Math.Nat.{min-le_left, min-le_right, le-min}
use Rattle.js_base.specs.declared.spot.Spot.{Spot}
use Rattle.block_table.specs.declared.block.Block.{Block}
use Rattle.block_table.specs.declared.placed.Placed.{Placed}
use Rattle.block_table.specs.Blocks.{Blocks, blocks, has_block, is_among, is_used}
use Rattle.block_table.specs.Closing.{closed, is_left, written_on, LawClosed}
use Rattle.block_table.specs.Puts.{end_of}
use Rattle.block_table.specs.Tables.{AreBlocks, AreBlocksBelow, IsTable, lies_in}
use Rattle.block_table.proofs.Apart.{apart_first, covers, lies_left}
use Rattle.block_table.proofs.Tables.{InFile, EndsLow, both, each_first, files_last}

-- the table without a block that is written on
abbrev pub unwritten : Blocks → Blocks
unwritten b = record { placed = b.placed; older = b.older; writing = None }

-- the block being written is left
pub record IsLeft (b : Blocks) : Type 0 where
  pub block : Block
  pub writes : b.writing ≡ Some block
  pub unused : is_used b.placed block.file ≡ false
  pub closed_is : closed b ≡ unwritten b

-- a block that is left holds no message
pub left_unused : (ps : List Placed) (k : Block) → is_left ps k ≡ true → is_used ps k.file ≡ false
left_unused ps k h = not-true (is_used ps k.file) (and_parts (nat_le (2 ^ 20) k.end) (not (is_used ps k.file)) h).1

pub closed_cases : (b : Blocks) → (closed b ≡ b) ⊎ IsLeft b
closed_cases b = go b.writing refl
  where
    on : Option Block → Blocks
    on w = record { placed = b.placed; older = b.older; writing = w }

    left : (k : Block) → b.writing ≡ Some k → (c : Bool) → is_left b.placed k ≡ c → (closed b ≡ b) ⊎ IsLeft b
    left k is true e = inr (record {
      block = k;
      writes = is;
      unused = left_unused b.placed k e;
      closed_is = ap on (ap (written_on b.placed) is ∙ ap (λ (c : Bool). cond c None (Some k)) e);
    })
    left k is false e = inl (ap on (ap (written_on b.placed) is ∙ ap (λ (c : Bool). cond c None (Some k)) e ∙ sym is))

    go : (w : Option Block) → b.writing ≡ w → (closed b ≡ b) ⊎ IsLeft b
    go None is = inl (ap on (ap (written_on b.placed) is ∙ sym is))
    go (Some k) is = left k is (is_left b.placed k) refl

-- ---- the table without the block

none_there : (file : ℕ) (ps : List Placed) → is_used ps file ≡ false → All (λ p. (p.spot.file == file) ≡ false) ps
none_there file [] h = All-nil (λ (p : Placed). (p.spot.file == file) ≡ false)
none_there file (p ∷ ps) h =
    let parts = or_parts (p.spot.file == file) (is_used ps file) h in
    All-cons (λ (q : Placed). (q.spot.file == file) ≡ false) p ps parts.0 (none_there file ps parts.1)

-- what is in another file than the last block is among the others
among_front : (ks : List Block) (k : Block) (file : ℕ) → is_among (ks ++ k ∷ []) file ≡ true → (k.file == file) ≡ false → is_among (ks ++ []) file ≡ true
among_front ks k file h ne =
    list_any-append (λ (x : Block). x.file == file) ks []
    ∙ sym (ap (λ (c : Bool). is_among ks file || (c || false)) ne)
    ∙ sym (list_any-append (λ (x : Block). x.file == file) ks (k ∷ []))
    ∙ h

among_more : (ks more : List Block) (file : ℕ) → is_among (ks ++ []) file ≡ true → is_among (ks ++ more) file ≡ true
among_more ks more file h =
    list_any-append (λ (x : Block). x.file == file) ks more
    ∙ or_left (is_among ks file) (is_among more file) (ap (λ (l : List Block). is_among l file) (sym (append-nil ks)) ∙ h)

lies_front : (ks : List Block) (k : Block) (spot : Spot) → lies_in (ks ++ k ∷ []) spot ≡ true → (spot.file == k.file) ≡ false → lies_in (ks ++ []) spot ≡ true
lies_front ks k spot h ne = go (lies_in ks spot) refl (sym (list_any-append (covers spot) ks (k ∷ [])) ∙ h)
  where
    there : (c : Bool) → (k.file == spot.file) ≡ c → ((c && nat_le (end_of spot) k.end) || false) ≡ true → lies_in (ks ++ []) spot ≡ true
    there true same l = absurd (true≢false (sym (eq-eqb spot.file k.file (sym (eqb-true k.file spot.file same))) ∙ ne))
    there false same l = absurd (true≢false (sym l))

    go : (c : Bool) → lies_in ks spot ≡ c → (c || (covers spot k || false)) ≡ true → lies_in (ks ++ []) spot ≡ true
    go true e l = lies_left spot ks [] e
    go false e l = there (k.file == spot.file) refl l

module _ (b : Blocks) (k : Block) (is : b.writing ≡ Some k) (unused : is_used b.placed k.file ≡ false) where
  -- all blocks, with the one being written
  all_are : blocks b ≡ b.older ++ k ∷ []
  all_are = ap (λ (w : Option Block). b.older ++ option_to_list w) is

  pub table_unwritten : IsTable b → IsTable (unwritten b)
  table_unwritten h = record {
    rising = h.rising;
    blocks_are = subst AreBlocks (sym (append-nil b.older)) (record {
      apart = apart_first b.older (option_to_list b.writing) h.blocks_are.apart;
      files = each_first InFile b.older (option_to_list b.writing) h.blocks_are.files;
      ends = each_first EndsLow b.older (option_to_list b.writing) h.blocks_are.ends;
    });
    inside = both (λ p. (p.spot.file == k.file) ≡ false) (λ p. lies_in (blocks b) p.spot ≡ true) (λ p. lies_in (b.older ++ []) p.spot ≡ true) b.placed
        (λ p other l. lies_front b.older k p.spot (ap (λ (ks : List Block). lies_in ks p.spot) (sym all_are) ∙ l) other) (none_there k.file b.placed unused) h.inside;
    held = h.held;
  }

  -- the files below the block and below what was known are blocks still
  pub below_unwritten : (free : ℕ) → IsTable b → AreBlocksBelow free b → AreBlocksBelow (min free k.file) (unwritten b)
  below_unwritten free h below = record {
    low = le-min below.low (files_last b.older k (subst (All InFile) all_are h.blocks_are.files)).low;
    taken = λ file least under.
        let first : file < free = omega (arith, under, min-le_left free k.file) in
        let second : file < k.file = omega (arith, under, min-le_right free k.file) in
        among_front b.older k file (ap (λ (ks : List Block). is_among ks file) (sym all_are) ∙ below.taken file least first) (apart file (k.file == file) refl second);
  }
    where
      apart : (file : ℕ) (c : Bool) → (k.file == file) ≡ c → file < k.file → (k.file == file) ≡ false
      apart file true e less = let same = eqb-true k.file file e in absurd (omega (arith, same, less))
      apart file false e less = e

  used_unwritten : (file : ℕ) → is_used b.placed file ≡ true → has_block b file ≡ true → has_block (unwritten b) file ≡ true
  used_unwritten file used has = among_front b.older k file (ap (λ (ks : List Block). is_among ks file) (sym all_are) ∙ has) (apart (k.file == file) refl)
    where
      apart : (c : Bool) → (k.file == file) ≡ c → (k.file == file) ≡ false
      apart true e = absurd (true≢false (sym used ∙ sym (ap (is_used b.placed) (eqb-true k.file file e)) ∙ unused))
      apart false e = e

-- ---- the laws

pub table_closed : (b : Blocks) → IsTable b → IsTable (closed b)
table_closed b h = elim (closed_cases b) [
  | inl is ↦ subst IsTable (sym is) h
  | inr l ↦ subst IsTable (sym l.closed_is) (table_unwritten b l.block l.writes l.unused h)
]

pub block_closed : (b : Blocks) (file : ℕ) → has_block (closed b) file ≡ true → has_block b file ≡ true
block_closed b file has = elim (closed_cases b) [
  | inl is ↦ ap (λ (t : Blocks). has_block t file) (sym is) ∙ has
  | inr l ↦ among_more b.older (option_to_list b.writing) file (ap (λ (t : Blocks). has_block t file) (sym l.closed_is) ∙ has)
]

pub fewer_closed : (b : Blocks) → length (blocks (closed b)) ≤ length (blocks b)
fewer_closed b = elim (closed_cases b) [
  | inl is ↦ omega (arith, ap (λ (t : Blocks). length (blocks t)) is)
  | inr l ↦ omega (arith, ap (λ (t : Blocks). length (blocks t)) l.closed_is, length-append b.older [], length-append b.older (option_to_list b.writing))
]

pub used_closed : (b : Blocks) (file : ℕ) → is_used b.placed file ≡ true → has_block b file ≡ true → has_block (closed b) file ≡ true
used_closed b file used has = elim (closed_cases b) [
  | inl is ↦ ap (λ (t : Blocks). has_block t file) is ∙ has
  | inr l ↦ ap (λ (t : Blocks). has_block t file) l.closed_is ∙ used_unwritten b l.block l.writes l.unused file used has
]

pub closed_again : (b : Blocks) → closed (closed b) ≡ closed b
closed_again b = elim (closed_cases b) [
  | inl is ↦ ap closed is
  | inr l ↦ ap closed l.closed_is ∙ sym l.closed_is
]

pub law_closed : LawClosed
law_closed = record { table = table_closed; block = block_closed; fewer = fewer_closed; used = used_closed; again = closed_again }
