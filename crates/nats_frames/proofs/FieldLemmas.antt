-- The fields of a text, cut off one by one.
use Rattle.std.proofs.Common.{ℕ, suc, ◌≡◌, ◌+◌, ◌<◌, Bool, true, false, not, cond, nat_lt, List, [], ◌∷◌, ◌++◌, length, take, drop, All, Some, None, refl, sym, ◌∙◌, ap, subst, arith}
use Rattle.std.specs.List.{prefix_len, position_or_len, list_all}
use Rattle.std.specs.Prelude.{◌≤◌, filter, position, unwrap_or}
use Rattle.std.proofs.lemmas.Bool.{and_parts, false≢true, ltb-false}
use Rattle.std.proofs.lemmas.List.{append-nil, take-append-drop}
use Rattle.std.proofs.lemmas.List.Sums.{prefix_len-le-length}
use Rattle.std.proofs.lemmas.List.Folds.{length-prefix_len}
use Rattle.std.proofs.lemmas.List.Elements.{All-nil, All-cons}
use Rattle.std.proofs.lemmas.List.Splits.{slice_split-cons_yes, slice_split_none, slice_split_at}
use Rattle.js_base.specs.Bytes.{Bytes, is_empty, is_blank}
use Rattle.nats_frames.specs.Grammar.{is_solid}
use Rattle.nats_frames.specs.Reading.{fields_of}

-- nothing, or first an element that does not pass
abbrev pub Stops : (ℕ → Bool) → List ℕ → Type 0
Stops p [] = Unit {0}
Stops p (x ∷ _) = p x ≡ false

-- the longest prefix that passes
pub record IsCut (p : ℕ → Bool) (xs : List ℕ) (n : ℕ) : Type 0 where
  pub passes : list_all p (take n xs) ≡ true
  pub stops : Stops p (drop n xs)

pub cut : (p : ℕ → Bool) (xs : List ℕ) → IsCut p xs (prefix_len p xs)
cut p [] = record { passes = refl; stops = tt }
cut p (x ∷ xs) = by (p x) refl (cut p xs)
  where
    by : (b : Bool) → p x ≡ b → IsCut p xs (prefix_len p xs) → IsCut p (x ∷ xs) (cond b (1 + prefix_len p xs) 0)
    by true e rest =
        let on : suc (prefix_len p xs) ≡ 1 + prefix_len p xs = omega arith in
        subst (IsCut p (x ∷ xs)) on (record { passes = rw e rest.passes; stops = rest.stops })
    by false e rest = record { passes = refl; stops = e }

-- ---- bytes that are no blanks, and bytes that are

pub solid_is : (b : ℕ) → is_solid b ≡ true → is_blank b ≡ false
solid_is b e = by (is_blank b) e
  where
    by : (t : Bool) → not t ≡ true → t ≡ false
    by true h = absurd (false≢true h)
    by false h = refl

pub blank_is : (b : ℕ) → is_solid b ≡ false → is_blank b ≡ true
blank_is b e = by (is_blank b) e
  where
    by : (t : Bool) → not t ≡ false → t ≡ true
    by true h = refl
    by false h = absurd (false≢true (sym h))

all_solid : (xs : Bytes) → list_all is_solid xs ≡ true → All (λ x. is_blank x ≡ false) xs
all_solid [] h = All-nil (λ x. is_blank x ≡ false)
all_solid (x ∷ xs) h =
    let both = and_parts (is_solid x) (list_all is_solid xs) h in
    All-cons (λ y. is_blank y ≡ false) x xs (solid_is x both.0) (all_solid xs both.1)

-- ---- places

-- the first place that passes, or else the end
pub place_or_len : (p : ℕ → Bool) (xs : Bytes) → unwrap_or (position p xs) (length xs) ≡ position_or_len p xs
place_or_len p xs = by (nat_lt (position_or_len p xs) (length xs)) refl (prefix_len-le-length (λ x. not (p x)) xs)
  where
    by : (t : Bool) → nat_lt (position_or_len p xs) (length xs) ≡ t → position_or_len p xs ≤ length xs →
        unwrap_or (cond t (Some (position_or_len p xs)) None) (length xs) ≡ position_or_len p xs
    by true e le = refl
    by false e le = omega (arith, ltb-false _ _ e)

pub place_within : (p : ℕ → Bool) (xs : Bytes) → unwrap_or (position p xs) (length xs) ≤ length xs
place_within p xs = omega (arith, place_or_len p xs, prefix_len-le-length (λ x. not (p x)) xs)

blank_again : (b : ℕ) → not (is_solid b) ≡ is_blank b
blank_again b = by (is_blank b)
  where
    by : (t : Bool) → not (not t) ≡ t
    by true = refl
    by false = refl

blanks_again : (xs : Bytes) → position_or_len is_solid xs ≡ prefix_len is_blank xs
blanks_again [] = refl
blanks_again (x ∷ xs) = ap (λ b. cond b (1 + position_or_len is_solid xs) 0) (blank_again x) ∙ ap (λ n. cond (is_blank x) (1 + n) 0) (blanks_again xs)

pub blanks_or_len : (xs : Bytes) → unwrap_or (position is_solid xs) (length xs) ≡ prefix_len is_blank xs
blanks_or_len xs = place_or_len is_solid xs ∙ blanks_again xs

-- ---- fields

abbrev has_bytes : Bytes → Bool
has_bytes field = not (is_empty field)

pub blanks_before : (gap rest : Bytes) → list_all is_blank gap ≡ true → fields_of (gap ++ rest) ≡ fields_of rest
blanks_before [] rest h = refl
blanks_before (b ∷ gap) rest h =
    let both = and_parts (is_blank b) (list_all is_blank gap) h in
    ap (filter has_bytes) (slice_split-cons_yes is_blank b (gap ++ rest) both.0) ∙ blanks_before gap rest both.1

pub blanks_alone : (gap : Bytes) → list_all is_blank gap ≡ true → fields_of gap ≡ []
blanks_alone gap h = ap fields_of (sym (append-nil gap)) ∙ blanks_before gap [] h

pub field_before : (field rest : Bytes) → 0 < length field → list_all is_solid field ≡ true → Stops is_solid rest → fields_of (field ++ rest) ≡ field ∷ fields_of rest
field_before [] rest some h s = absurd (omega arith)
field_before (f ∷ ield) [] some h s =
    ap fields_of (append-nil (f ∷ ield)) ∙ ap (filter has_bytes) (slice_split_none is_blank (f ∷ ield) (all_solid (f ∷ ield) h))
field_before (f ∷ ield) (y ∷ ys) some h s =
    let blank = blank_is y s in
    ap (filter has_bytes) (slice_split_at is_blank (f ∷ ield) y ys (all_solid (f ∷ ield) h) blank)
    ∙ ap (λ more. (f ∷ ield) ∷ more) (sym (ap (filter has_bytes) (slice_split-cons_yes is_blank y ys blank)))

-- ---- the first field

-- what follows the blanks at the start
abbrev pub behind : Bytes → Bytes
behind text = drop (prefix_len is_blank text) text

pub behind_fields : (text : Bytes) → fields_of text ≡ fields_of (behind text)
behind_fields text =
    ap fields_of (sym (take-append-drop (prefix_len is_blank text) text)) ∙ blanks_before (take (prefix_len is_blank text) text) (behind text) (cut is_blank text).passes

-- nothing is left that begins with a blank, and with none
pub neither : (xs : Bytes) → Stops is_blank xs → Stops is_solid xs → xs ≡ []
neither [] h s = refl
neither (x ∷ xs) h s = absurd (false≢true (sym h ∙ blank_is x s))

pub no_field : (text : Bytes) → prefix_len is_solid (behind text) ≡ 0 → fields_of text ≡ []
no_field text none =
    let stops : Stops is_solid (behind text) = subst (λ (n : ℕ). Stops is_solid (drop n (behind text))) none (cut is_solid (behind text)).stops in
    behind_fields text ∙ ap fields_of (neither (behind text) (cut is_blank text).stops stops)

pub first_field : (text : Bytes) (len : ℕ) → len ≡ prefix_len is_solid (behind text) → 0 < len →
    fields_of text ≡ take len (behind text) ∷ fields_of (drop len (behind text))
first_field text len is some =
    let t = behind text in
    let c : IsCut is_solid t len = subst (IsCut is_solid t) (sym is) (cut is_solid t) in
    let n : length (take len t) ≡ len = ap (λ k. length (take k t)) is ∙ length-prefix_len is_solid t ∙ sym is in
    behind_fields text ∙ ap fields_of (sym (take-append-drop len t)) ∙ field_before (take len t) (drop len t) (omega (arith, n)) c.passes c.stops
