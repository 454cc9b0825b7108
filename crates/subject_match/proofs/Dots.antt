-- The tokens of a text by its first dot, and what matches at their end.
use Rattle.std.proofs.Common.{ℕ, ◌≡◌, ◌+◌, ◌-◌, ◌==◌, Bool, true, false, cond, ltb, List, All, [], ◌∷◌, Option, Some, None, length, take, drop, position, refl, sym, ◌∙◌, arith, is_some, not, Bor}
use Rattle.std.specs.Option.{option_copied}
use Rattle.std.specs.List.{onto_first, position_or_len}
use Rattle.std.proofs.lemmas.List.Splits.{slice_split_first, slice_split_none}
use Rattle.std.proofs.lemmas.List.{take_rest}
use Rattle.std.proofs.lemmas.List.Sums.{fails_before_first}
use Rattle.std.proofs.lemmas.Bool.{ltb-false}
use borrow.Author.Tests.{ltb-true}
use Rattle.js_base.specs.Bytes.{Bytes, is_empty}
use Rattle.js_base.specs.Subjects.{tokens, matches, meets}
use Rattle.subject_match.specs.Tokens.{tokens_left}

abbrev is_dot : ℕ → Bool
is_dot byte = byte == 46

-- there is at least one token
pub some_token : (text : Bytes) → is_empty (tokens text) ≡ false
some_token [] = refl
some_token (byte ∷ more) = go (is_dot byte) (tokens more)
  where
    go : (b : Bool) (parts : List Bytes) → is_empty (cond b ([] ∷ parts) (onto_first byte parts)) ≡ false
    go true parts = refl
    go false [] = refl
    go false (part ∷ parts) = refl

-- a dot ends the first token
pub tokens_by_dot : (text : Bytes) (at : ℕ) → Some at ≡ position is_dot text → tokens text ≡ take at text ∷ tokens (take (length text - (at + 1)) (drop (at + 1) text))
tokens_by_dot text at h = go (position_or_len is_dot text) (ltb (position_or_len is_dot text) (length text)) refl refl h
  where
    go : (first : ℕ) (b : Bool) → position_or_len is_dot text ≡ first → ltb (position_or_len is_dot text) (length text) ≡ b → Some at ≡ cond b (Some first) None
        → tokens text ≡ take at text ∷ tokens (take (length text - (at + 1)) (drop (at + 1) text))
    go first false e f k = cc
    go first true e f k =
        let same : at ≡ position_or_len is_dot text = cc in
        rw (take_rest text (at + 1), same) (slice_split_first is_dot text 0 (ltb-true _ _ f))

all_fail : (text : Bytes) → ltb (position_or_len is_dot text) (length text) ≡ false → All (λ byte. is_dot byte ≡ false) text
all_fail text f k d l =
    fails_before_first is_dot text k d (omega (arith, ltb-false _ _ f))

-- without a dot the text is one token
pub tokens_without_dot : (text : Bytes) → None ≡ position is_dot text → tokens text ≡ text ∷ []
tokens_without_dot text h = go (ltb (position_or_len is_dot text) (length text)) refl h
  where
    go : (b : Bool) → ltb (position_or_len is_dot text) (length text) ≡ b → None ≡ cond b (Some (position_or_len is_dot text)) None → tokens text ≡ text ∷ []
    go true f k = cc
    go false f k = slice_split_none is_dot text (all_fail text f)

-- the tokens of what is left after a reference
abbrev parts : Option (Bor Bytes) → List Bytes
parts left = tokens_left (option_copied left)

none_left : (left : Option (Bor Bytes)) (over : Bool) → is_some left ≡ not over → is_empty (parts left) ≡ over
none_left None true h = refl
none_left None false h = cc
none_left (Some text) true h = cc
none_left (Some text) false h = some_token text.now

-- at a pattern's end the other text has to end
pub matches_at_end : (wanted given : Option (Bor Bytes)) (over : Bool) → wanted ≡ None → is_some given ≡ not over → over ≡ matches (parts wanted) (parts given)
matches_at_end wanted given over h k = rw h (sym (none_left given over k) ∙ go (parts given))
  where
    go : (left : List Bytes) → is_empty left ≡ matches [] left
    go [] = refl
    go (part ∷ more) = refl

pub meets_at_end : (first second : Option (Bor Bytes)) (over : Bool) → first ≡ None → is_some second ≡ not over → over ≡ meets (parts first) (parts second)
meets_at_end first second over h k = rw h (sym (none_left second over k) ∙ go (parts second))
  where
    go : (left : List Bytes) → is_empty left ≡ meets [] left
    go [] = refl
    go (part ∷ more) = refl

-- if the other text ends first, nothing matches
pub matches_too_few : (wanted given : Option (Bor Bytes)) (text : Bor Bytes) → wanted ≡ Some text → given ≡ None → false ≡ matches (parts wanted) (parts given)
matches_too_few wanted given text h k = rw (h, k) (go (tokens text.now) (some_token text.now))
  where
    go : (left : List Bytes) → is_empty left ≡ false → false ≡ matches left []
    go [] e = cc
    go (part ∷ more) e = refl

pub meets_too_few : (first second : Option (Bor Bytes)) (text : Bor Bytes) → first ≡ Some text → second ≡ None → false ≡ meets (parts first) (parts second)
meets_too_few first second text h k = rw (h, k) (go (tokens text.now) (some_token text.now))
  where
    go : (left : List Bytes) → is_empty left ≡ false → false ≡ meets left []
    go [] e = cc
    go (part ∷ more) e = refl
