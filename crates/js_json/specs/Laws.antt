-- The laws of times and of numbers.
use Rattle.std.specs.Prelude.{ℕ, ◌≡◌, ◌^◌, ◌<◌, ◌↔◌, ℤ, pos, neg_ℤ, Bool, true, IsTrue, Some, option_and_then, if◌then◌else◌}
use Rattle.std.specs.Float.Numeral.{Parts, numeral_digits}
use Rattle.std.specs.Fmt.{signed_decimal}
use Rattle.serde_json.specs.Find.{as_integer}
use Rattle.serde_json.specs.Read.{is_integer, number_of, number_from}
use Rattle.js_base.specs.Bytes.{Bytes}
use Rattle.js_json.specs.Kinds.{FitsWord}
use Rattle.js_json.specs.Times.{SpellsTime, time_text}
use Rattle.js_json.specs.TimeReading.{time_at}

-- a text is read as a moment exactly if it is the moment's text
abbrev pub LawTime : Type 0
LawTime = (text : Bytes) (at : ℕ) → (time_at text ≡ Some at) ↔ SpellsTime text at

-- what is written of a moment is its text
abbrev pub LawTimeText : Type 0
LawTimeText = (at : ℕ) → at < 2 ^ 62 → SpellsTime (time_text at) at

-- what is written of a moment is read as that moment
abbrev pub LawRoundTrip : Type 0
LawRoundTrip = (at : ℕ) → at < 2 ^ 62 → time_at (time_text at) ≡ Some at

-- each integer of 64 bits, with a sign or without, is read from its decimal digits
abbrev pub LawInteger : Type 0
LawInteger = (z : ℤ) → FitsWord z → option_and_then as_integer (number_of (signed_decimal z)) ≡ Some z

-- the integer that the digits of a numeral say
abbrev pub value_of : Bool → Parts → ℤ
value_of negative numeral = if negative then neg_ℤ (pos (numeral_digits numeral)) else pos (numeral_digits numeral)

-- the numeral is digits alone, without a point and an exponent, and after a minus they are not 0
pub record IsWhole (negative : Bool) (numeral : Parts) (z : ℤ) : Type 0 where
  pub digits : IsTrue (is_integer numeral)
  pub no_minus_zero : negative ≡ true → 0 < numeral_digits numeral
  pub value : z ≡ value_of negative numeral
  pub small : FitsWord z

-- a numeral that is read as an integer is so
abbrev pub LawNumeral : Type 0
LawNumeral = (negative : Bool) (numeral : Parts) (z : ℤ) → option_and_then as_integer (number_from negative numeral) ≡ Some z → IsWhole negative numeral z
