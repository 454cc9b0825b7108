-- Which numerals are read as integers.
use Rattle.std.proofs.Common.{ℕ, ◌≡◌, ◌^◌, ◌<◌, ◌≤◌, ◌&&◌, ℤ, pos, negsuc, neg_ℤ, Bool, true, false, Float, Some, None, option_and_then, refl, sym, ap, arith, nat_lt, nat_le, true≢false, if◌then◌else◌}
use Rattle.std.proofs.lemmas.Bool.Decides.{nat_tests}
use Rattle.std.specs.Float.{binary64}
use Rattle.std.specs.Float.Numeral.{numeral_digits, nearest_float as nearest}
use Rattle.jiff.proofs.SpanFacts.{signed_arith}
use Rattle.serde_json.specs.Data.{unsigned, negative, float}
use Rattle.serde_json.specs.Find.{as_integer}
use Rattle.serde_json.specs.Read.{is_integer}
use Rattle.serde_json.proofs.Numbers.{number_of-decimal, number_of-negative}
use Rattle.js_json.specs.Laws.{LawInteger, LawNumeral}

pub integers_read : LawInteger
integers_read (pos n) fits = ap (option_and_then as_integer) (number_of-decimal n (omega (arith, signed_arith, fits.high)))
integers_read (negsuc n) fits = ap (option_and_then as_integer) (number_of-negative n (omega (arith, signed_arith, fits.low)))

-- a float is no integer, so the test has passed
unsigned_passed : (b finite : Bool) (n : ℕ) (x : Float) (z : ℤ) → option_and_then as_integer (if b then Some (unsigned n) else (if finite then Some (float x) else None)) ≡ Some z → (b ≡ true) × (z ≡ pos n)
unsigned_passed true finite n x z is = (refl, cc)
unsigned_passed false true n x z is = cc
unsigned_passed false false n x z is = cc

negative_passed : (b finite : Bool) (y : ℤ) (x : Float) (z : ℤ) → option_and_then as_integer (if b then Some (negative y) else (if finite then Some (float x) else None)) ≡ Some z → (b ≡ true) × (z ≡ y)
negative_passed true finite y x z is = (refl, cc)
negative_passed false true y x z is = cc
negative_passed false false y x z is = cc

unsigned_test : (whole : Bool) (n : ℕ) → (whole && nat_lt n (2 ^ 64)) ≡ true → (whole ≡ true) × (n < 2 ^ 64)
unsigned_test whole n is = (grind (arith, nat_tests), grind (arith, nat_tests))

negative_test : (whole : Bool) (n : ℕ) → (whole && nat_lt 0 n && nat_le n (2 ^ 63)) ≡ true → (whole ≡ true) × (0 < n) × (n ≤ 2 ^ 63)
negative_test whole n is = (grind (arith, nat_tests), grind (arith, nat_tests), grind (arith, nat_tests))

pub whole_read : LawNumeral
whole_read false numeral z is =
    let passed = unsigned_passed _ _ (numeral_digits numeral) (nearest binary64 false numeral) z is in
    let test = unsigned_test (is_integer numeral) (numeral_digits numeral) passed.0 in
    record {
      digits = test.0;
      no_minus_zero = λ minus. absurd (true≢false (sym minus));
      value = passed.1;
      small = record { low = omega (arith, signed_arith, passed.1); high = omega (arith, signed_arith, passed.1, test.1) };
    }
whole_read true numeral z is =
    let passed = negative_passed _ _ (neg_ℤ (pos (numeral_digits numeral))) (nearest binary64 true numeral) z is in
    let test = negative_test (is_integer numeral) (numeral_digits numeral) passed.0 in
    record {
      digits = test.0;
      no_minus_zero = λ minus. test.1;
      value = passed.1;
      small = record { low = omega (arith, signed_arith, passed.1, test.2); high = omega (arith, signed_arith, passed.1) };
    }
