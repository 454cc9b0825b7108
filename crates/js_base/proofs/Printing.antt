-- What a number is printed as is read as that number.
use Rattle.std.proofs.Common.{ℕ, ◌≡◌, ◌<◌, ◌^◌, true, [], ◌∷◌, Option, Some, None, is_none, Ok, length, ◌∙◌, arith, rules}
use Rattle.std.specs.Prelude.{decimal}
use Rattle.std.specs.Char.{is_ascii_digit}
use Rattle.std.specs.List.{list_all}
use Rattle.std.proofs.lemmas.Bool.Decides.{nat_tests}
use Rattle.std.proofs.lemmas.Fmt.{decimal_nonempty, digits_decimal, digits_value-decimal}
use Rattle.std.proofs.lemmas.Str.Parse.{IsNumeralModel, numerals_by_weight}
use Rattle.js_base.specs.Bytes.{Bytes}
use Rattle.js_base.specs.Decimal.{value_of, first_bad, small_or, number_of, LawDecimal}
use Rattle.js_base.proofs.Places.{none_fails}

-- `value_of` gives digits their value
digits_weigh : IsNumeralModel (λ ds. list_all is_ascii_digit ds ≡ true) value_of
digits_weigh = numerals_by_weight _ (search rules) value_of (search rules)

small : (o : Option ℕ) (m n : ℕ) → is_none o ≡ true → m ≡ n → n < 2 ^ 62 → small_or o m ≡ Ok n
small None m n h e l = rw e (grind (arith, nat_tests))
small (Some at) m n h e l = cc

read_back : (text : Bytes) (n : ℕ) → 0 < length text → list_all is_ascii_digit text ≡ true → value_of text ≡ n → n < 2 ^ 62 → number_of text ≡ Ok n
read_back [] n filled all e l = absurd (omega arith)
read_back (byte ∷ more) n filled all e l = small (first_bad (byte ∷ more)) (value_of (byte ∷ more)) n (none_fails is_ascii_digit (byte ∷ more) ∙ all) e l

pub printed_is_read : LawDecimal
printed_is_read n l =
    read_back (decimal n) n (decimal_nonempty n (omega arith)) (digits_decimal digits_weigh n (omega arith)) (digits_value-decimal digits_weigh n (omega arith)) l
