-- What is placed fits, step by step.
use Rattle.std.proofs.Common.{◌≡◌, ℕ, zero, suc, max, ◌+◌, ◌-◌, ◌<◌, ◌≤◌, ◌^◌, ◌==◌, ◌&&◌, ◌||◌, Bool, true, false, cond, not, List, [], ◌∷◌, Option, Some, None, length, refl, sym, ap, ◌∙◌, subst, arith}
use Rattle.std.specs.Prelude.{find, nat_le, option_map, IfSome}
use Rattle.std.specs.List.{range_with_len}
use Rattle.std.specs.Option.{option_to_list, IsSomeAnd}
use Rattle.std.proofs.lemmas.Bool.{or_parts, or_from, or_left, or_right, and_from, eq-eqb, ne_eqb, le-leb, leb-true}
use Rattle.std.proofs.lemmas.List.Folds.{list_any-append}
use Rattle.std.proofs.Math.Nat.{le-max_left, le-max_right}
use Rattle.js_base.specs.declared.spot.Spot.{Spot}
use Rattle.block_table.specs.declared.block.Block.{Block}
use Rattle.block_table.specs.declared.placing.Placing.{Placing}
use Rattle.block_table.specs.Blocks.{Blocks, no_blocks, blocks, has_block, is_among, is_used, used}
use Rattle.block_table.specs.Puts.{end_of, is_above, goes_on, begins, fits, left_by, with_placed, put_at, put, without, removed}
use Rattle.block_table.specs.Placings.{placing, free_from, stays, place_on, place_at, place, restarted}
use Rattle.block_table.specs.Batches.{Step, Store, Remove, Restart, AreTaken}
use Rattle.block_table.specs.Rooms.{in_use}
use Rattle.block_table.proofs.Lists.{none_kept}
use Rattle.block_table.proofs.Ranges.{begun_at}
use Rattle.block_table.proofs.InUse.{removed_count, put_on_count, put_at_count}

-- by the table before a batch the placing serves the table as the batch left it so far: the block being written is the same, and no file
-- that the placing takes for free is a block; and it has no more blocks than are in use
pub record Serves (before : Blocks) (p : Placing) (b : Blocks) : Type 0 where
  pub writing : b.writing ≡ p.writing
  pub free : (file : ℕ) → p.from ≤ file → has_block before file ≡ false → has_block b file ≡ false
  pub count : length (blocks b) ≤ in_use before p

pub serves_first : (b : Blocks) → Serves b (placing b) b
serves_first b = record { writing = refl; free = λ file above h. h; count = omega arith }

pub serves_restarted : (before : Blocks) (p : Placing) (b : Blocks) → Serves before p b → Serves before (restarted p) no_blocks
serves_restarted before p b s = record { writing = refl; free = λ file above h. refl; count = omega arith }

-- the parts of a file that is no block
module _ (b : Blocks) (file : ℕ) (absent : has_block b file ≡ false) where
  parts : (is_among b.older file ≡ false) × (is_among (option_to_list b.writing) file ≡ false)
  parts =
      or_parts (is_among b.older file) (is_among (option_to_list b.writing) file)
      (sym (list_any-append (λ (k : Block). k.file == file) b.older (option_to_list b.writing)) ∙ absent)

  pub absent_written : (w : Block) → b.writing ≡ Some w → (w.file == file) ≡ false
  absent_written w is = (or_parts (w.file == file) false (sym (ap (λ o. is_among (option_to_list o) file) is) ∙ parts.1)).0

  pub absent_removed : (low high : ℕ) → has_block (removed low high b) file ≡ false
  absent_removed low high =
      list_any-append (λ (k : Block). k.file == file) (used (without low high b.placed) b.older) (option_to_list b.writing)
      ∙ or_from (is_among (used (without low high b.placed) b.older) file) (is_among (option_to_list b.writing) file)
      (none_kept (λ (k : Block). is_used (without low high b.placed) k.file) (λ (k : Block). k.file == file) b.older parts.0) parts.1

  pub absent_put : (seq : ℕ) (spot : Spot) → (spot.file == file) ≡ false → has_block (put_at seq spot b) file ≡ false
  absent_put seq spot other =
      list_any-append (λ (k : Block). k.file == file) (used (with_placed seq spot b.placed) (left_by spot b)) (record { file = spot.file; end = end_of spot } ∷ [])
      ∙ or_from (is_among (used (with_placed seq spot b.placed) (left_by spot b)) file) ((spot.file == file) || false)
      (none_kept (λ (k : Block). is_used (with_placed seq spot b.placed) k.file) (λ (k : Block). k.file == file) (left_by spot b) (left (goes_on spot b.writing)))
      (or_from (spot.file == file) false other refl)
    where
      left : (g : Bool) → is_among (cond g b.older (blocks b)) file ≡ false
      left true = parts.0
      left false = absent

pub serves_removed : (before : Blocks) (p : Placing) (b : Blocks) (low high : ℕ) → Serves before p b → Serves before p (removed low high b)
serves_removed before p b low high s = record {
  writing = s.writing;
  free = λ file above h. absent_removed b file (s.free file above h) low high;
  count = let fewer = removed_count low high b in let most = s.count in omega (arith, fewer, most);
}

-- ---- a message that goes on

abbrev spot_on : Block → ℕ → Spot
spot_on w len = record { file = w.file; at = w.end; len = len }

abbrev placed_on : Placing → Block → ℕ → Placing
placed_on p w len = record { from = p.from; writing = Some (record { file = w.file; end = w.end + len }) }

module _ (before : Blocks) (p : Placing) (b : Blocks) (seq len : ℕ) (s : Serves before p b) (w : Block) (is : p.writing ≡ Some w) where
  pub fits_on : is_above seq b.placed ≡ true → stays len (Some w) ≡ true → fits seq (spot_on w len) b ≡ true
  fits_on above within =
      let most : w.end + len ≤ 8388608 = leb-true (w.end + len) 8388608 within in
      and_from (is_above seq b.placed && nat_le (end_of (spot_on w len)) (2 ^ 32 - 1)) (goes_on (spot_on w len) b.writing || begins (spot_on w len) b)
      (and_from (is_above seq b.placed) (nat_le (end_of (spot_on w len)) (2 ^ 32 - 1)) above (le-leb (end_of (spot_on w len)) (2 ^ 32 - 1) (omega (arith, most))))
      (or_left (goes_on (spot_on w len) b.writing) (begins (spot_on w len) b)
      (ap (goes_on (spot_on w len)) (s.writing ∙ is) ∙ and_from (w.file == w.file) (w.end == w.end) (eq-eqb w.file w.file refl) (eq-eqb w.end w.end refl)))

  pub serves_on : Serves before (placed_on p w len) (put_at seq (spot_on w len) b)
  serves_on = record {
    writing = refl;
    free = λ file above h. let absent = s.free file above h in absent_put b file absent seq (spot_on w len) (absent_written b file absent w (s.writing ∙ is));
    count =
        let on : goes_on (spot_on w len) b.writing ≡ true = ap (goes_on (spot_on w len)) (s.writing ∙ is) ∙ and_from (w.file == w.file) (w.end == w.end) (eq-eqb w.file w.file refl) (eq-eqb w.end w.end refl) in
        let fewer = put_on_count seq (spot_on w len) b on in
        let most = s.count in
        omega (arith, fewer, most);
  }

-- ---- a message that begins a file

-- the file that is found is free
pub found_free : (b : Blocks) (from n file : ℕ) → find (λ f. not (has_block b f)) (range_with_len from n) ≡ Some file
    → (has_block b file ≡ false) × (from ≤ file) × (file < from + n)
found_free b from zero file h = cc
found_free b from (suc n) file h = go (has_block b from) refl h (found_free b (from + 1) n file)
  where
    go : (g : Bool) → has_block b from ≡ g → cond (not g) (Some from) (find (λ f. not (has_block b f)) (range_with_len (from + 1) n)) ≡ Some file
        → (find (λ f. not (has_block b f)) (range_with_len (from + 1) n) ≡ Some file → (has_block b file ≡ false) × (from + 1 ≤ file) × (file < from + 1 + n))
        → (has_block b file ≡ false) × (from ≤ file) × (file < from + suc n)
    go true e is rest = let r = rest is in (r.0, omega (arith, r.1), omega (arith, r.2))
    go false e is rest =
        let same : from ≡ file = grind (arith, is) in
        (sym (ap (has_block b) same) ∙ e, omega (arith, same), omega (arith, same))

abbrev spot_at : ℕ → ℕ → Spot
spot_at file len = record { file = file; at = 0; len = len }

module _ (before : Blocks) (p : Placing) (b : Blocks) (seq len file : ℕ) (s : Serves before p b) (found : free_from p.from before ≡ Some file) where
  free_file : (has_block before file ≡ false) × (max 2 p.from ≤ file) × (file < max 2 p.from + (65536 - max 2 p.from))
  free_file = found_free before (max 2 p.from) (65536 - max 2 p.from) file found

  free_low : (2 ≤ file) × (p.from ≤ file) × (file ≤ 65535)
  free_low =
      let free = free_file in
      (omega (arith, free.1, le-max_left 2 p.from), omega (arith, free.1, le-max_right 2 p.from), omega (arith, free.1, free.2))

  pub fits_at : is_above seq b.placed ≡ true → len < 2 ^ 32 → fits seq (spot_at file len) b ≡ true
  fits_at above small =
      let free = free_file in
      let low = free_low in
      let absent : has_block b file ≡ false = s.free file low.1 free.0 in
      and_from (is_above seq b.placed && nat_le (end_of (spot_at file len)) (2 ^ 32 - 1)) (goes_on (spot_at file len) b.writing || begins (spot_at file len) b)
      (and_from (is_above seq b.placed) (nat_le (end_of (spot_at file len)) (2 ^ 32 - 1)) above (le-leb (end_of (spot_at file len)) (2 ^ 32 - 1) (omega (arith, small))))
      (or_right (goes_on (spot_at file len) b.writing) (begins (spot_at file len) b)
      (and_from (nat_le 2 file && nat_le file 65535) (not (has_block b file))
      (and_from (nat_le 2 file) (nat_le file 65535) (le-leb 2 file low.0) (le-leb file 65535 low.2))
      (ap not absent)))

  pub serves_at : Serves before (record { from = file + 1; writing = Some (record { file = file; end = len }) }) (put_at seq (spot_at file len) b)
  serves_at =
      let low = free_low in
      record {
        writing = ap (λ (n : ℕ). Some (record { file = file; end = n })) (omega arith);
        free = λ other above h.
            absent_put b other (s.free other (omega (arith, above, low.1)) h) seq (spot_at file len) (ne_eqb file other (λ same. omega (arith, above, same)));
        count =
            let most = s.count in
            let more = put_at_count seq (spot_at file len) b in
            let begun = begun_at before p.from file found in
            omega (arith, most, more, begun);
      }

-- ---- the steps

-- a message that fits is put
put_fits : (seq : ℕ) (spot : Spot) (b : Blocks) (P : Blocks → Type 0) → fits seq spot b ≡ true → P (put_at seq spot b) → IsSomeAnd (put seq spot b) P
put_fits seq spot b P f h = subst (λ (g : Bool). IsSomeAnd (cond g (Some (put_at seq spot b)) None) P) (sym f) h

-- a message's place is one at which it fits, and the rest is taken after it
abbrev IsTaken : Blocks → List Step → ℕ → Blocks → Spot × Placing → Type 0
IsTaken before more seq b r = IsSomeAnd (put seq r.0 b) (λ c. AreTaken before more r.1 c)

store_taken : (before : Blocks) (more : List Step) (seq len : ℕ) (p : Placing) (b : Blocks) → Serves before p b
    → ((q : Placing) (c : Blocks) → Serves before q c → AreTaken before more q c) → is_above seq b.placed ≡ true → len < 2 ^ 32
    → IfSome (place before len p) (IsTaken before more seq b)
store_taken before more seq len p b s rest above small = go (stays len p.writing) refl
  where
    on : (o : Option Block) → p.writing ≡ o → stays len o ≡ true → IfSome (place_on len p o) (IsTaken before more seq b)
    on None is within = cc
    on (Some w) is within =
        put_fits seq (spot_on w len) b (λ c. AreTaken before more (placed_on p w len) c) (fits_on before p b seq len s w is above within)
        (rest (placed_on p w len) (put_at seq (spot_on w len) b) (serves_on before p b seq len s w is))

    new : (o : Option ℕ) → free_from p.from before ≡ o → IfSome (option_map (place_at len) o) (IsTaken before more seq b)
    new None is = tt
    new (Some file) is =
        put_fits seq (spot_at file len) b (λ c. AreTaken before more (record { from = file + 1; writing = Some (record { file = file; end = len }) }) c)
        (fits_at before p b seq len file s is above small)
        (rest (record { from = file + 1; writing = Some (record { file = file; end = len }) }) (put_at seq (spot_at file len) b) (serves_at before p b seq len file s is))

    go : (g : Bool) → stays len p.writing ≡ g → IfSome (cond g (place_on len p p.writing) (option_map (place_at len) (free_from p.from before))) (IsTaken before more seq b)
    go true e = on p.writing refl e
    go false e = new (free_from p.from before) refl

pub taken : (before : Blocks) (steps : List Step) (p : Placing) (b : Blocks) → Serves before p b → AreTaken before steps p b
taken before [] p b s = s.count
taken before (Store seq len ∷ more) p b s = store_taken before more seq len p b s (taken before more)
taken before (Remove low high ∷ more) p b s = taken before more p (removed low high b) (serves_removed before p b low high s)
taken before (Restart ∷ more) p b s = taken before more (restarted p) no_blocks (serves_restarted before p b s)
