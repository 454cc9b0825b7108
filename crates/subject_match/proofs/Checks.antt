-- A text has no fault exactly if it is a subject, or a pattern.
use Rattle.std.proofs.Common.{ℕ, ◌≡◌, ◌+◌, Bool, true, false, cond, nat_lt, nat_le, ◌&&◌, ◌||◌, not, List, [], ◌∷◌, Option, Some, None, length, is_none, refl, sym, ap, ◌∙◌, arith}
use Rattle.std.specs.Option.{option_map}
use Rattle.std.specs.List.{list_all}
use Rattle.std.specs.Str.{is_utf8}
use Rattle.std.specs.Str.Lossy.{utf8_valid_len}
use Rattle.std.proofs.lemmas.Bool.Decides.{nat_tests}
use Rattle.js_base.specs.Bytes.{Bytes, is_empty, same}
use Rattle.js_base.specs.Subjects.{tokens, rest, is_plain, is_pattern, is_token_byte, is_spelled, is_subject_text, is_pattern_text}
use Rattle.js_base.proofs.Places.{none_fails}
use Rattle.subject_match.specs.declared.check.Kind.{Kind}
use Rattle.subject_match.specs.declared.check.Kind.TheVariants.{Subject, Pattern}
use Rattle.subject_match.specs.declared.fault.SubjectFault.{SubjectFault}
use Rattle.subject_match.specs.declared.fault.SubjectFault.TheVariants.{EmptyToken, BadByte, TooLong, Wildcard}
use Rattle.subject_match.specs.Faults.{fault_of, token_fault, barred, bad_byte, broken, earlier, subject_fault, pattern_fault}

-- ---- no fault of a kind

none_earlier : (one other : Option SubjectFault) → is_none (earlier one other) ≡ (is_none one && is_none other)
none_earlier None other = refl
none_earlier (Some one) None = refl
none_earlier (Some one) (Some other) = go (nat_lt _ _)
  where
    go : (b : Bool) → is_none (cond b (Some other) (Some one)) ≡ false
    go true = refl
    go false = refl

none_mapped : (at : Option ℕ) → is_none (option_map BadByte at) ≡ is_none at
none_mapped None = refl
none_mapped (Some at) = refl

none_broken : (text : Bytes) → is_none (broken text) ≡ is_utf8 text
none_broken text = go (is_utf8 text)
  where
    go : (b : Bool) → is_none (cond b None (Some (utf8_valid_len text))) ≡ b
    go true = refl
    go false = refl

-- the tokens are as the kind wants them
abbrev are_fit : Kind → List Bytes → Bool
are_fit Subject parts = is_plain parts
are_fit Pattern parts = is_pattern parts

fit_next : (kind : Kind) (token : Bytes) (more : List Bytes) → are_fit kind (token ∷ more) ≡ (not (barred kind token (is_empty more)) && are_fit kind more)
fit_next Subject token more = refl
fit_next Pattern token more = ap (λ b. b && is_pattern more) (go (is_empty more) (same token rest))
  where
    go : (last wild : Bool) → (last || not wild) ≡ not (wild && not last)
    go true true = refl
    go true false = refl
    go false true = refl
    go false false = refl

none_in_tokens : (kind : Kind) (at : ℕ) (parts : List Bytes) → is_none (token_fault kind at parts) ≡ (list_all (λ token. not (is_empty token)) parts && are_fit kind parts)
none_in_tokens Subject at [] = refl
none_in_tokens Pattern at [] = refl
none_in_tokens kind at (token ∷ more) =
    go (is_empty token) (barred kind token (is_empty more)) _ _ _ (none_in_tokens kind (at + length token + 1) more) ∙ ap (λ fit. (not (is_empty token) && list_all (λ token. not (is_empty token)) more) && fit) (sym (fit_next kind token more))
  where
    go : (empty wild : Bool) (later : Option SubjectFault) (filled fit : Bool) → is_none later ≡ (filled && fit)
        → is_none (cond empty (Some (EmptyToken at)) (cond wild (Some (Wildcard at)) later)) ≡ ((not empty && filled) && (not wild && fit))
    go true wild later filled fit h = refl
    go false true later true fit h = refl
    go false true later false fit h = refl
    go false false later filled fit h = h

-- ---- put together

some_bytes : (text : Bytes) → list_all (λ token. not (is_empty token)) (tokens text) ≡ true → nat_lt 0 (length text) ≡ true
some_bytes [] h = cc
some_bytes (byte ∷ more) h = grind (arith, nat_tests)

none_short : (long : Bool) (other : Option SubjectFault) → is_none (cond long (Some TooLong) other) ≡ (not long && is_none other)
none_short true other = refl
none_short false other = refl

short_enough : (n : ℕ) → not (nat_lt 1024 n) ≡ nat_le n 1024
short_enough n = grind (arith, nat_tests)

joined : (filled short bytes utf8 whole fit : Bool) → (whole ≡ true → filled ≡ true)
    → (short && ((whole && fit) && (bytes && utf8))) ≡ (((((filled && short) && bytes) && utf8) && whole) && fit)
joined filled short bytes utf8 whole fit h = grind arith

both : {a b c d : Bool} → a ≡ b → c ≡ d → (a && c) ≡ (b && d)
both h k = cc

no_fault : (kind : Kind) (text : Bytes) → is_none (fault_of kind text) ≡ (is_spelled text && are_fit kind (tokens text))
no_fault kind text =
    let parts = none_in_tokens kind 0 (tokens text) in
    let bytes = none_earlier (option_map BadByte (bad_byte text)) (option_map BadByte (broken text)) ∙ both (none_mapped (bad_byte text) ∙ none_fails is_token_byte text) (none_mapped (broken text) ∙ none_broken text) in
    none_short (nat_lt 1024 (length text)) _
    ∙ both (short_enough (length text)) (none_earlier (token_fault kind 0 (tokens text)) _ ∙ both parts bytes)
    ∙ joined (nat_lt 0 (length text)) (nat_le (length text) 1024) (list_all is_token_byte text) (is_utf8 text) (list_all (λ token. not (is_empty token)) (tokens text)) (are_fit kind (tokens text)) (some_bytes text)

pub subject_ok : (text : Bytes) → is_none (subject_fault text) ≡ is_subject_text text
subject_ok text = no_fault Subject text

pub pattern_ok : (text : Bytes) → is_none (pattern_fault text) ≡ is_pattern_text text
pattern_ok text = no_fault Pattern text
