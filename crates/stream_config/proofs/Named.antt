-- A name is a text that may be the subject of a stream.
use Rattle.std.proofs.Common.{◌≡◌, ℕ, ◌<◌, Bool, true, false, ◌&&◌, ◌||◌, not, ◌==◌, [], ◌∷◌, Option, Some, None, Ok, Err, nat_lt, nat_le, length, is_none, codes, refl, sym, ◌∙◌, if◌then◌else◌, arith}
use Rattle.std.specs.List.{list_all}
use Rattle.std.proofs.lemmas.Bool.{and_parts, and_from}
use Rattle.std.proofs.lemmas.Bool.Decides.{nat_tests}
use Rattle.std.proofs.lemmas.List.Splits.{slice_split_none}
use Rattle.std.proofs.lemmas.List.Sums.{AllPass-from_list_all}
use Rattle.std.proofs.lemmas.Str.{is_utf8-from_IsUtf8}
use Rattle.js_base.specs.Bytes.{Bytes, is_empty, same}
use Rattle.js_base.specs.Names.{name_of, unless_bad, first_bad, is_name_byte}
use Rattle.js_base.specs.Subjects.{tokens, meets, star, rest, is_token_byte, is_spelled, is_pattern_text}
use Rattle.js_base.specs.declared.name.NameFault.TheVariants.{TooLong}
use Rattle.js_base.proofs.Places.{none_fails}
use Rattle.js_model.specs.Configs.{is_name, is_stream_subject}
use Rattle.js_model.proofs.NameTexts.{name_byte, name_parts, name_utf8}

-- ---- what is read as a name is one

read_whole : (long : Bool) (bad : Option ℕ) (text : Bytes) → (if long then Err TooLong else unless_bad bad text) ≡ Ok text → (long ≡ false) × (is_none bad ≡ true)
read_whole true bad text e = absurd (cc)
read_whole false None text e = (refl, refl)
read_whole false (Some at) text e = absurd (cc)

within : (n : ℕ) → nat_lt 255 n ≡ false → nat_le n 255 ≡ true
within n h = grind (arith, nat_tests)

pub read_name : (text : Bytes) → name_of text ≡ Ok text → is_name text ≡ true
read_name [] e = absurd (cc)
read_name (byte ∷ more) e =
    let whole = read_whole (nat_lt 255 (length (byte ∷ more))) (first_bad (byte ∷ more)) (byte ∷ more) e in
    and_from _ _ (within (length (byte ∷ more)) whole.0) (sym (none_fails is_name_byte (byte ∷ more)) ∙ whole.1)

-- ---- its bytes

each : (p q : ℕ → Bool) → ((byte : ℕ) → p byte ≡ true → q byte ≡ true) → (text : Bytes) → list_all p text ≡ true → list_all q text ≡ true
each p q so [] h = refl
each p q so (byte ∷ more) h = let parts = and_parts (p byte) (list_all p more) h in and_from (q byte) (list_all q more) (so byte parts.0) (each p q so more parts.1)

-- ---- it is one token

one_token : (name : Bytes) → list_all is_name_byte name ≡ true → tokens name ≡ name ∷ []
one_token name h = slice_split_none (λ byte. byte == 46) name (λ k d within. (name_byte _ (AllPass-from_list_all is_name_byte name h k d within)).no_dot)

-- it is no wildcard
no_rest : (name : Bytes) → list_all is_name_byte name ≡ true → same name rest ≡ false
no_rest [] h = refl
no_rest (byte ∷ more) h = rw ((name_byte byte (and_parts (is_name_byte byte) (list_all is_name_byte more) h).0).no_rest) refl

filled_size : (name : Bytes) → not (is_empty name) ≡ true → nat_lt 0 (length name) ≡ true
filled_size [] h = h
filled_size (byte ∷ more) h = let some : 0 < length (byte ∷ more) = omega arith in grind (arith, nat_tests)

longer : (n : ℕ) → nat_le n 255 ≡ true → nat_le n 1024 ≡ true
longer n h = grind (arith, nat_tests)

spelled : (name : Bytes) → is_name name ≡ true → is_spelled name ≡ true
spelled name h =
    let parts = name_parts name h in
    and_from _ _
    (and_from _ _
    (and_from _ _ (and_from _ _ (filled_size name parts.filled) (longer (length name) parts.short))
    (each is_name_byte is_token_byte (λ byte is. (name_byte byte is).token) name parts.bytes))
    (is_utf8-from_IsUtf8 name (name_utf8 name h)))
    (rw (one_token name parts.bytes) (and_from _ _ parts.filled refl))

and_false : (b : Bool) → b && false ≡ false
and_false true = refl
and_false false = refl

pattern : (name : Bytes) → is_name name ≡ true → is_pattern_text name ≡ true
pattern name h = and_from _ _ (spelled name h) (rw (one_token name (name_parts name h).bytes) refl)

-- it meets no pattern of two tokens
apart : (name token : Bytes) → same name rest ≡ false → meets (name ∷ []) (token ∷ rest ∷ []) ≡ false
apart name token h = rw (h, and_false (same token rest), and_false (same name star || (same token star || same name token))) refl

-- a name may be the subject of a stream
pub name_subject : (name : Bytes) → is_name name ≡ true → is_stream_subject name ≡ true
name_subject name h =
    let parts = name_parts name h in
    and_from _ _ (pattern name h) (rw (one_token name parts.bytes, apart name (codes "$JS") (no_rest name parts.bytes)) refl)
