-- The lines of bytes by their first LF.
use Rattle.std.proofs.Common.{ℕ, ◌≡◌, ◌+◌, ◌-◌, ◌==◌, Bool, true, false, cond, ltb, List, All, [], ◌∷◌, Some, None, length, take, drop, position, refl, arith}
use Rattle.std.specs.List.{onto_first, position_or_len}
use Rattle.std.proofs.lemmas.List.Splits.{slice_split_first, slice_split_none}
use Rattle.std.proofs.lemmas.List.{take_rest}
use Rattle.std.proofs.lemmas.List.Sums.{fails_before_first}
use Rattle.std.proofs.lemmas.Bool.{ltb-false}
use borrow.Author.Tests.{ltb-true}
use Rattle.js_base.specs.Bytes.{Bytes, is_empty}
use Rattle.js_base.specs.Headers.{block_lines}

abbrev is_lf : ℕ → Bool
is_lf byte = byte == 10

-- there is at least one part
pub some_line : (text : Bytes) → is_empty (block_lines text) ≡ false
some_line [] = refl
some_line (byte ∷ more) = go (is_lf byte) (block_lines more)
  where
    go : (b : Bool) (parts : List Bytes) → is_empty (cond b ([] ∷ parts) (onto_first byte parts)) ≡ false
    go true parts = refl
    go false [] = refl
    go false (part ∷ parts) = refl

-- an LF ends the first line
pub lines_by_lf : (text : Bytes) (at : ℕ) → Some at ≡ position is_lf text → block_lines text ≡ take at text ∷ block_lines (take (length text - (at + 1)) (drop (at + 1) text))
lines_by_lf text at h = go (position_or_len is_lf text) (ltb (position_or_len is_lf text) (length text)) refl refl h
  where
    go : (first : ℕ) (b : Bool) → position_or_len is_lf text ≡ first → ltb (position_or_len is_lf text) (length text) ≡ b → Some at ≡ cond b (Some first) None
        → block_lines text ≡ take at text ∷ block_lines (take (length text - (at + 1)) (drop (at + 1) text))
    go first false e f k = cc
    go first true e f k =
        let same : at ≡ position_or_len is_lf text = cc in
        rw (take_rest text (at + 1), same) (slice_split_first is_lf text 0 (ltb-true _ _ f))

all_fail : (text : Bytes) → ltb (position_or_len is_lf text) (length text) ≡ false → All (λ byte. is_lf byte ≡ false) text
all_fail text f k d l = fails_before_first is_lf text k d (omega (arith, ltb-false _ _ f))

-- without an LF the text is one part
pub lines_without_lf : (text : Bytes) → None ≡ position is_lf text → block_lines text ≡ text ∷ []
lines_without_lf text h = go (ltb (position_or_len is_lf text) (length text)) refl h
  where
    go : (b : Bool) → ltb (position_or_len is_lf text) (length text) ≡ b → None ≡ cond b (Some (position_or_len is_lf text)) None → block_lines text ≡ text ∷ []
    go true f k = cc
    go false f k = slice_split_none is_lf text (all_fail text f)
