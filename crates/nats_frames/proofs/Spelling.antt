-- What is read of the fields of a line is how they are spelled, both ways.
use Rattle.std.proofs.Common.{ℕ, zero, suc, ◌≡◌, ◌<◌, true, false, List, [], ◌∷◌, ◌++◌, length, take, drop, refl, sym, ◌∙◌, ap, subst, arith, inl, inr}
use Rattle.std.specs.List.{prefix_len, list_all}
use Rattle.std.proofs.lemmas.Bool.{and_parts, cases_lt}
use Rattle.std.proofs.lemmas.List.{append-nil, take-append-drop, length-drop}
use Rattle.std.proofs.lemmas.List.Sums.{prefix_len-le-length}
use Rattle.std.proofs.lemmas.List.Folds.{length-prefix_len}
use Rattle.js_base.specs.Bytes.{Bytes, is_blank}
use Rattle.nats_frames.specs.Grammar.{is_solid, IsGap, IsField, SpellsFields}
use Rattle.nats_frames.specs.Reading.{fields_of}
use Rattle.nats_frames.proofs.FieldLemmas.{Stops, cut, blank_is, blanks_before, blanks_alone, field_before, behind, no_field, first_field, neither}

-- a blank is not solid
pub not_solid : (b : ℕ) → is_blank b ≡ true → is_solid b ≡ false
not_solid b e = rw e refl

pub blank_front : (gap rest : Bytes) → IsGap gap → Stops is_solid (gap ++ rest)
blank_front [] rest g = absurd (omega (arith, g.some))
blank_front (b ∷ gap) rest g = not_solid b (and_parts (is_blank b) (list_all is_blank gap) g.blank).0

-- fields begin with a blank
pub fields_apart : (fields : List Bytes) (bytes : Bytes) → SpellsFields fields bytes → Stops is_solid bytes
fields_apart [] [] h = tt
fields_apart [] (b ∷ bytes) h = not_solid b (and_parts (is_blank b) (list_all is_blank bytes) h).0
fields_apart (field ∷ more) bytes (gap, rest, g, f, s, e) = subst (Stops is_solid) (sym e) (blank_front gap (field ++ rest) g)

pub fields_read : (fields : List Bytes) (bytes : Bytes) → SpellsFields fields bytes → fields_of bytes ≡ fields
fields_read [] bytes h = blanks_alone bytes h
fields_read (field ∷ more) bytes (gap, rest, g, f, s, e) =
    ap fields_of e ∙ blanks_before gap (field ++ rest) g.blank ∙ field_before field rest f.some f.solid (fields_apart more rest s)
    ∙ ap (λ fields. field ∷ fields) (fields_read more rest s)

-- ---- the other way

-- blanks alone
no_more : (bytes : Bytes) → prefix_len is_solid (behind bytes) ≡ 0 → list_all is_blank bytes ≡ true
no_more bytes none =
    let c = cut is_blank bytes in
    let stops : Stops is_solid (behind bytes) = subst (λ (n : ℕ). Stops is_solid (drop n (behind bytes))) none (cut is_solid (behind bytes)).stops in
    let nothing : behind bytes ≡ [] = neither (behind bytes) c.stops stops in
    let all : take (prefix_len is_blank bytes) bytes ≡ bytes =
    sym (append-nil (take (prefix_len is_blank bytes) bytes)) ∙ ap (λ r. take (prefix_len is_blank bytes) bytes ++ r) (sym nothing) ∙ take-append-drop (prefix_len is_blank bytes) bytes
    in
    ap (list_all is_blank) (sym all) ∙ c.passes

-- what begins with a blank begins with a gap
pub some_blank : (bytes : Bytes) → Stops is_solid bytes → 0 < length bytes → 0 < prefix_len is_blank bytes
some_blank [] h some = absurd (omega arith)
some_blank (b ∷ bytes) h some = rw (blank_is b h) (omega arith)

abbrev Spelled : Bytes → Type 0
Spelled bytes = SpellsFields (fields_of bytes) bytes

pub fields_spelled_to : (n : ℕ) (bytes : Bytes) → length bytes < n → Stops is_solid bytes → Spelled bytes
fields_spelled_to zero bytes few h = absurd (omega arith)
fields_spelled_to (suc n) bytes few h =
    elim (cases_lt 0 (prefix_len is_solid (behind bytes))) [
      | inl some ↦
          let t = behind bytes in
          let len = prefix_len is_solid t in
          let blanks = prefix_len is_blank bytes in
          let gap = take blanks bytes in
          let rest = drop len t in
          let c = cut is_solid t in
          let fits = prefix_len-le-length is_solid t in
          let left = length-drop blanks bytes in
          let left_of = length-drop len t in
          let g : IsGap gap = record {
            some = omega (arith, length-prefix_len is_blank bytes, some_blank bytes h (omega (arith, some, fits, left)));
            blank = (cut is_blank bytes).passes;
          } in
          let f : IsField (take len t) = record { some = omega (arith, some, length-prefix_len is_solid t); solid = c.passes } in
          let s : Spelled rest = fields_spelled_to n rest (omega (arith, few, some, fits, left, left_of)) c.stops in
          let whole : bytes ≡ gap ++ (take len t ++ rest) = sym (take-append-drop blanks bytes) ∙ ap (λ r. gap ++ r) (sym (take-append-drop len t)) in
          subst (λ (fields : List Bytes). SpellsFields fields bytes) (sym (first_field bytes len refl some)) (gap, rest, g, f, s, whole)
      | inr none ↦
          let zero_is : prefix_len is_solid (behind bytes) ≡ 0 = omega arith in
          subst (λ (fields : List Bytes). SpellsFields fields bytes) (sym (no_field bytes zero_is)) (no_more bytes zero_is)
    ]

pub fields_spelled : (bytes : Bytes) → Stops is_solid bytes → Spelled bytes
fields_spelled bytes h = fields_spelled_to (suc (length bytes)) bytes (omega arith) h
