-- Status blocks are blocks.
use Rattle.std.proofs.Common.{ℕ, ◌≡◌, ◌+◌, ◌%◌, ◌<◌, ◌^◌, true, not, nat_lt, List, [], ◌∷◌, ◌++◌, map, codes, refl, ◌∙◌, ap, arith, append_assoc}
use Rattle.std.specs.Prelude.{decimal}
use Rattle.std.specs.List.{list_all, flat_map}
use Rattle.std.proofs.lemmas.Bool.{and_parts, and_from, ne_eqb, ltb-true}
use Rattle.std.proofs.lemmas.Fmt.{decimal_by_steps}
use Rattle.std.proofs.lemmas.List.Folds.{list_all-append}
use Rattle.js_base.specs.Bytes.{Bytes, crlf}
use Rattle.js_base.specs.Status.{status_text, status_field}
use Rattle.nats_headers.specs.Grammar.{is_text_byte, is_text, is_name, is_field, field_line, field_lines}
use Rattle.nats_headers.specs.Laws.{number_field, is_number_field, LawStatus}

-- a digit is no CR and no LF
digit_is_text : (n : ℕ) → is_text_byte (48 + n) ≡ true
digit_is_text n = and_from _ _ (ap not (ne_eqb (48 + n) 13 (λ h. omega (arith, h)))) (ap not (ne_eqb (48 + n) 10 (λ h. omega (arith, h))))

decimal_is_text : (n : ℕ) → n < 2 ^ 64 → is_text (decimal n) ≡ true
decimal_is_text n h =
    decimal_by_steps (λ (m : ℕ) (ds : Bytes). is_text ds ≡ true) (λ m small. and_from _ _ (digit_is_text m) refl)
    (λ m ds large all. list_all-append is_text_byte ds ((48 + m % 10) ∷ []) ∙ and_from _ _ all (and_from _ _ (digit_is_text (m % 10)) refl)) n h

status_is_text : (text : Bytes) → is_text text ≡ true → is_text (status_text text) ≡ true
status_is_text [] h = refl
status_is_text (b ∷ more) h = h

number_is_field : (field : Bytes × ℕ) → is_number_field field ≡ true → is_field (number_field field) ≡ true
number_is_field field h =
    let parts = and_parts (is_name field.0) (nat_lt field.1 (2 ^ 64)) h in
    and_from _ _ parts.0 (decimal_is_text field.1 (ltb-true field.1 (2 ^ 64) parts.1))

numbers_are_fields : (fields : List (Bytes × ℕ)) → list_all is_number_field fields ≡ true → list_all is_field (map number_field fields) ≡ true
numbers_are_fields [] h = refl
numbers_are_fields (field ∷ fields) h =
    let parts = and_parts (is_number_field field) (list_all is_number_field fields) h in
    and_from _ _ (number_is_field field parts.0) (numbers_are_fields fields parts.1)

field_is : (field : Bytes × ℕ) → status_field field ≡ field_line (number_field field)
field_is field = simp append_assoc

fields_are : (fields : List (Bytes × ℕ)) → flat_map status_field fields ≡ field_lines (map number_field fields)
fields_are [] = refl
fields_are (field ∷ fields) = ap (λ (x : Bytes). x ++ flat_map status_field fields) (field_is field) ∙ ap (λ (x : Bytes). field_line (number_field field) ++ x) (fields_are fields)

pub statuses : LawStatus
statuses code text fields small is_a_text are_numbers =
    record {
      parts = and_from _ _
          (list_all-append is_text_byte (decimal code) (status_text text) ∙ and_from _ _ (decimal_is_text code small) (status_is_text text is_a_text))
          (numbers_are_fields fields are_numbers);
      whole =
          ap (λ (x : Bytes). ((x ++ crlf) ++ flat_map status_field fields) ++ crlf) (append_assoc (codes "NATS/1.0 ") (decimal code) (status_text text))
          ∙ ap (λ (x : Bytes). (((codes "NATS/1.0 " ++ (decimal code ++ status_text text)) ++ crlf) ++ x) ++ crlf) (fields_are fields);
    }
