-- Numbers in a fixed count of digits.
use Rattle.std.proofs.Common.{ℕ, zero, suc, ◌≡◌, ◌+◌, ◌-◌, ◌*◌, ◌/◌, ◌%◌, ◌^◌, ◌<◌, Bool, true, false, ◌&&◌, [], ◌∷◌, length, Option, Some, None, is_none, Ok, refl, sym, ap, ◌∙◌, arith, ltb}
use Rattle.std.specs.Char.{is_ascii_digit}
use Rattle.std.specs.List.{list_all}
use Rattle.std.specs.Result.{result_ok}
use Rattle.std.proofs.Math.Nat.{one-le-pow, pow-suc}
use Rattle.std.proofs.lemmas.Nat.{div_below, div-mul-add, mod-mul-add, div-add-mod', mod_below, mul-add-lt}
use Rattle.std.proofs.lemmas.Bool.Decides.{nat_tests}
use Rattle.js_base.specs.Bytes.{Bytes}
use Rattle.js_base.specs.Decimal.{value_of, first_bad, small_or, number_of}
use Rattle.js_base.proofs.Places.{none_fails}
use Rattle.js_json.specs.Times.{in_digits}

pub power : (k : ℕ) → 0 < 10 ^ k
power k = omega (arith, one-le-pow k 10 (omega arith))

pub length-in_digits : (k n : ℕ) → length (in_digits k n) ≡ k
length-in_digits zero n = refl
length-in_digits (suc k) n = ap suc (length-in_digits k (n % 10 ^ k))

first_digit : (k n : ℕ) → n < 10 ^ suc k → n / 10 ^ k < 10
first_digit k n small = div_below n (10 ^ k) 10 (power k) (omega (arith, pow-suc 10 k))

-- the digits are digits
pub digits-in_digits : (k n : ℕ) → n < 10 ^ k → list_all is_ascii_digit (in_digits k n) ≡ true
digits-in_digits zero n small = refl
digits-in_digits (suc k) n small =
    let first = first_digit k n small in
    let digit : is_ascii_digit (48 + n / 10 ^ k) ≡ true = grind (arith, nat_tests) in
    rw (digit, digits-in_digits k (n % 10 ^ k) (mod_below n (10 ^ k) (power k))) refl

-- and they spell the number
pub value_of-in_digits : (k n : ℕ) → n < 10 ^ k → value_of (in_digits k n) ≡ n
value_of-in_digits zero n small = omega arith
value_of-in_digits (suc k) n small =
    let whole = div-add-mod' n (10 ^ k) in
    let less : 48 + n / 10 ^ k - 48 ≡ n / 10 ^ k = omega arith in
    let rest = value_of-in_digits k (n % 10 ^ k) (mod_below n (10 ^ k) (power k)) in
    ap (λ (l : ℕ). (48 + n / 10 ^ k - 48) * 10 ^ l + value_of (in_digits k (n % 10 ^ k))) (length-in_digits k (n % 10 ^ k))
    ∙ ap (λ (v : ℕ). (48 + n / 10 ^ k - 48) * 10 ^ k + v) rest ∙ ap (λ (d : ℕ). d * 10 ^ k + n % 10 ^ k) less ∙ whole

both : (a b : Bool) → (a && b) ≡ true → (a ≡ true) × (b ≡ true)
both true b h = (refl, h)
both false b h = cc

digit_value : (digit : ℕ) → is_ascii_digit digit ≡ true → digit - 48 < 10
digit_value digit is = grind (arith, nat_tests)

digit_again : (digit : ℕ) → is_ascii_digit digit ≡ true → 48 + (digit - 48) ≡ digit
digit_again digit is = grind (arith, nat_tests)

-- a number in so many digits is below that power of ten
pub value_of-lt : (text : Bytes) → list_all is_ascii_digit text ≡ true → value_of text < 10 ^ length text
value_of-lt [] all = omega arith
value_of-lt (digit ∷ more) all =
    let parts = both (is_ascii_digit digit) (list_all is_ascii_digit more) all in
    let rest = value_of-lt more parts.1 in
    let low : digit - 48 < 10 = digit_value digit parts.0 in
    omega (arith, mul-add-lt (digit - 48) (10 ^ length more) (value_of more) 10 low rest, pow-suc 10 (length more))

-- digits are the digits of what they spell
pub in_digits-value_of : (text : Bytes) → list_all is_ascii_digit text ≡ true → in_digits (length text) (value_of text) ≡ text
in_digits-value_of [] all = refl
in_digits-value_of (digit ∷ more) all =
    let parts = both (is_ascii_digit digit) (list_all is_ascii_digit more) all in
    let rest = value_of-lt more parts.1 in
    let first : 48 + (digit - 48) ≡ digit = digit_again digit parts.0 in
    rw (div-mul-add (digit - 48) (10 ^ length more) (value_of more) rest, mod-mul-add (digit - 48) (10 ^ length more) (value_of more) rest, first)
    (ap (λ ds. digit ∷ ds) (in_digits-value_of more parts.1))

-- ---- the numbers that are read

-- a text is a number if it has one or more digits and no other byte
pub record Spells (text : Bytes) (n : ℕ) : Type 0 where
  pub filled : 0 < length text
  pub digits : list_all is_ascii_digit text ≡ true
  pub value : value_of text ≡ n
  pub small : n < 2 ^ 62

below : (v n : ℕ) → result_ok (small_or None v) ≡ Some n → ltb v (2 ^ 62) ≡ true
below v n is = grind (arith, nat_tests)

told : (o : Option ℕ) (v n : ℕ) → result_ok (small_or o v) ≡ Some n → (is_none o ≡ true) × (v ≡ n) × (v < 2 ^ 62)
told (Some at) v n is = cc
told None v n is =
    let small : ltb v (2 ^ 62) ≡ true = below v n is in
    let same : v ≡ n = grind (arith, nat_tests) in
    (refl, same, grind (arith, nat_tests))

pub number_of-spells : (text : Bytes) (n : ℕ) → result_ok (number_of text) ≡ Some n → Spells text n
number_of-spells [] n is = cc
number_of-spells (byte ∷ more) n is =
    let parts = told (first_bad (byte ∷ more)) (value_of (byte ∷ more)) n is in
    record {
      filled = omega arith;
      digits = sym (none_fails is_ascii_digit (byte ∷ more)) ∙ parts.0;
      value = parts.1;
      small = omega (arith, parts.1, parts.2);
    }

small : (o : Option ℕ) (v n : ℕ) → is_none o ≡ true → v ≡ n → n < 2 ^ 62 → small_or o v ≡ Ok n
small None v n h e l = rw e (grind (arith, nat_tests))
small (Some at) v n h e l = cc

pub number_of-from_spells : (text : Bytes) (n : ℕ) → Spells text n → number_of text ≡ Ok n
number_of-from_spells [] n s = absurd (omega (arith, s.filled))
number_of-from_spells (byte ∷ more) n s =
    small (first_bad (byte ∷ more)) (value_of (byte ∷ more)) n (none_fails is_ascii_digit (byte ∷ more) ∙ s.digits) s.value s.small
