-- How many blocks there are, as messages come and go.
use Rattle.std.proofs.Common.{◌≡◌, ◌≤◌, ℕ, ◌+◌, Bool, true, false, cond, [], ◌∷◌, Option, Some, None, length, refl, ap, arith, length-append}
use Rattle.std.specs.Option.{option_to_list}
use Rattle.js_base.specs.declared.spot.Spot.{Spot}
use Rattle.block_table.specs.declared.block.Block.{Block}
use Rattle.block_table.specs.Blocks.{Blocks, blocks, is_used, used}
use Rattle.block_table.specs.Puts.{goes_on, left_by, with_placed, put_at, without, removed, end_of}
use Rattle.block_table.proofs.Lists.{kept_length}

-- messages go
pub removed_count : (low high : ℕ) (b : Blocks) → length (blocks (removed low high b)) ≤ length (blocks b)
removed_count low high b =
    let left = without low high b.placed in
    let fewer = kept_length (λ (k : Block). is_used left k.file) b.older in
    let new = length-append (used left b.older) (option_to_list b.writing) in
    let old = length-append b.older (option_to_list b.writing) in
    omega (arith, fewer, new, old)

-- a message comes: the blocks that are left, and the one being written
put_count : (seq : ℕ) (spot : Spot) (b : Blocks) → length (blocks (put_at seq spot b)) ≤ length (left_by spot b) + 1
put_count seq spot b =
    let more = with_placed seq spot b.placed in
    let fewer = kept_length (λ (k : Block). is_used more k.file) (left_by spot b) in
    let new = length-append (used more (left_by spot b)) (record { file = spot.file; end = end_of spot } ∷ []) in
    omega (arith, fewer, new)

-- where it goes on in the block being written there are no more
pub put_on_count : (seq : ℕ) (spot : Spot) (b : Blocks) → goes_on spot b.writing ≡ true → length (blocks (put_at seq spot b)) ≤ length (blocks b)
put_on_count seq spot b on =
    let most = put_count seq spot b in
    let left : length (left_by spot b) ≡ length b.older = ap (λ (g : Bool). length (cond g b.older (blocks b))) on in
    let old = length-append b.older (option_to_list b.writing) in
    let one = written b.writing on in
    omega (arith, most, left, old, one)
  where
    written : (o : Option Block) → goes_on spot o ≡ true → length (option_to_list o) ≡ 1
    written None e = cc
    written (Some w) e = refl

-- and wherever it goes, there is one more at most
pub put_at_count : (seq : ℕ) (spot : Spot) (b : Blocks) → length (blocks (put_at seq spot b)) ≤ length (blocks b) + 1
put_at_count seq spot b =
    let most = put_count seq spot b in
    let left = fewer (goes_on spot b.writing) in
    omega (arith, most, left)
  where
    fewer : (g : Bool) → length (cond g b.older (blocks b)) ≤ length (blocks b)
    fewer true = let old = length-append b.older (option_to_list b.writing) in omega (arith, old)
    fewer false = omega arith
