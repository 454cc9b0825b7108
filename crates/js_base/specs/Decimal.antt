-- Decimal numbers, as the protocol's sizes and sequences are written.
use Rattle.std.specs.Prelude.{ℕ, ◌≡◌, ◌<◌, true, slice_index, ◌+◌, ◌-◌, ◌*◌, ◌^◌, nat_lt, not, [], ◌∷◌, length, Option, Some, None, position, Result, Ok, Err, if◌then◌else◌, decimal}
use Rattle.std.specs.Char.{is_ascii_digit}
use Rattle.js_base.specs.Bytes.{Bytes}
use Rattle.js_base.specs.declared.decimal.DecFault.{DecFault}
use Rattle.js_base.specs.declared.decimal.DecFault.TheVariants.{Empty, BadDigit, TooBig}

-- the number that digits spell: each weighs ten times what the next one does
abbrev pub value_of : Bytes → ℕ
value_of [] = 0
value_of (digit ∷ more) = (digit - 48) * 10 ^ length more + value_of more

-- the first byte that is no digit
abbrev pub first_bad : Bytes → Option ℕ
first_bad text = position (λ byte. not (is_ascii_digit byte)) text

-- each byte is a digit
abbrev pub AreDigits : Bytes → Type 0
AreDigits text = (k : ℕ) → k < length text → is_ascii_digit (slice_index text k) ≡ true

abbrev pub small_or : Option ℕ → ℕ → Result ℕ DecFault
small_or (Some at) n = Err (BadDigit at)
small_or None n = if nat_lt n (2 ^ 62) then Ok n else Err TooBig

-- a number below 2 ^ 62, or the first fault: no digits, a byte that is none, a number that is too big
abbrev pub number_of : Bytes → Result ℕ DecFault
number_of [] = Err Empty
number_of (byte ∷ more) = small_or (first_bad (byte ∷ more)) (value_of (byte ∷ more))

-- what a number is printed as is read as that number
abbrev pub LawDecimal : Type 0
LawDecimal = (n : ℕ) → n < 2 ^ 62 → number_of (decimal n) ≡ Ok n
