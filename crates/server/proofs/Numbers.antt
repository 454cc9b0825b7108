-- Laws of the numbers of the command line.
use Rattle.std.proofs.Common.{ℕ, ◌≡◌, ◌≤◌, ◌<◌, ◌^◌, Bool, true, false, ◌&&◌, List, [], ◌∷◌, length, Option, Some, None, Result, Ok, Err, refl, arith, leb-true, ap, subst, sym, ◌∙◌}
use Rattle.std.specs.Prelude.{if◌then◌else◌, nat_le, not}
use Rattle.std.specs.Char.{is_ascii_digit}
use Rattle.std.specs.List.{list_all}
use Rattle.std.specs.Result.{result_ok}
use Rattle.std.specs.Str.{all_ascii_digits}
use Rattle.std.specs.Str.Parse.{ParsesUnsigned, digits_value}
use Rattle.std.proofs.lemmas.Bool.{and_parts}
use Rattle.std.proofs.lemmas.Str.Parse.{IsNumeralModel, numerals_by_value, tells_all_ascii_digits, digits_value_short, parse_gives}
use Rattle.js_base.specs.Bytes.{is_empty}
use Rattle.server.specs.Listening.{is_number, number_of}

abbrev AreDigits : List ℕ → Type 0
AreDigits text = all_ascii_digits text ≡ true

model : IsNumeralModel AreDigits (digits_value 10)
model = numerals_by_value AreDigits tells_all_ascii_digits

all_digits : (text : List ℕ) → all_ascii_digits text ≡ list_all is_ascii_digit text
all_digits [] = refl
all_digits (byte ∷ more) = ap (λ b. is_ascii_digit byte && b) (all_digits more)

some_bytes : (text : List ℕ) → not (is_empty text) ≡ true → 0 < length text
some_bytes [] e = cc
some_bytes (byte ∷ more) e = omega arith

-- a text that is a number is parsed as that number
pub number_parsed : {E : Type 0} (text : List ℕ) (r : Result ℕ E) → ParsesUnsigned 64 10 text r → is_number text ≡ true → result_ok r ≡ number_of text
number_parsed text r parsed is =
    let (sized, each) = and_parts (not (is_empty text) && nat_le (length text) 19) (list_all is_ascii_digit text) is in
    let (some, few) = and_parts (not (is_empty text)) (nat_le (length text) 19) sized in
    let digits : AreDigits text = all_digits text ∙ each in
    let most = leb-true (length text) 19 few in
    let fits : digits_value 10 text < 2 ^ 64 = omega (arith, digits_value_short model text 19 digits most) in
    rw (parse_gives model 64 text r parsed digits (some_bytes text some) fits, is) refl
