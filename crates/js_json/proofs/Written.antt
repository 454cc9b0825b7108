-- What is written of a moment is its text.
use Rattle.std.proofs.Common.{ℕ, ◌≡◌, ◌+◌, ◌-◌, ◌*◌, ◌/◌, ◌%◌, ◌^◌, ◌<◌, ◌≤◌, Bool, true, ◌&&◌, IsTrue, length, refl, ap, ◌∙◌, arith, nat_lt, nat_le}
use Rattle.std.proofs.lemmas.Bool.Decides.{nat_tests}
use Rattle.js_base.specs.Decimal.{value_of}
use Rattle.js_json.specs.Calendar.{day_after}
use Rattle.js_json.specs.Times.{in_digits, is_clock, is_fraction, utc, fraction_nanos, clock_nanos, clock_of, time_text}
use Rattle.js_json.specs.Laws.{LawTimeText, LawRoundTrip}
use Rattle.js_json.proofs.Digits.{digits-in_digits, length-in_digits, value_of-in_digits}
use Rattle.js_json.proofs.Days.{day_after-is}
use Rattle.js_json.proofs.Moments.{time_read}

-- digits after the dot
fraction_is : (k n : ℕ) → k ≤ 9 → n < 10 ^ k → IsTrue (is_fraction (in_digits k n)) × (fraction_nanos (in_digits k n) ≡ n * 10 ^ (9 - k))
fraction_is k n few small =
    let len : length (in_digits k n) ≡ k = length-in_digits k n in
    let short : nat_le (length (in_digits k n)) 9 ≡ true = grind (arith, nat_tests) in (
      rw (digits-in_digits k n small, short) refl,
      ap (λ l. value_of (in_digits k n) * 10 ^ (9 - l)) len ∙ ap (λ v. v * 10 ^ (9 - k)) (value_of-in_digits k n small),
    )

clock_found : (hour minute second : ℕ) (fraction : Bool) → hour < 24 → minute < 60 → second < 60 → fraction ≡ true → IsTrue (nat_lt hour 24 && nat_lt minute 60 && nat_lt second 60 && fraction)
clock_found hour minute second fraction h m s f = grind (arith, nat_tests)

clock_sum : (nanos : ℕ) → nanos < 86_400_000_000_000
    → ((nanos / 3_600_000_000_000 * 60 + nanos / 60_000_000_000 % 60) * 60 + nanos / 1_000_000_000 % 60) * 1_000_000_000 + nanos % 1_000_000_000 ≡ nanos
clock_sum nanos small = omega arith

-- the clock at so many nanoseconds of a day
clock_is : (nanos : ℕ) → nanos < 86_400_000_000_000 → IsTrue (is_clock (clock_of nanos)) × (clock_nanos (clock_of nanos) ≡ nanos)
clock_is nanos small =
    let f = fraction_is 9 (nanos % 1_000_000_000) (omega arith) (omega arith) in
    let whole : fraction_nanos (in_digits 9 (nanos % 1_000_000_000)) ≡ nanos % 1_000_000_000 = f.1 ∙ omega arith in (
      clock_found (nanos / 3_600_000_000_000) (nanos / 60_000_000_000 % 60) (nanos / 1_000_000_000 % 60) (is_fraction (in_digits 9 (nanos % 1_000_000_000))) (omega arith) (omega arith) (omega arith) f.0,
      ap (λ n. ((nanos / 3_600_000_000_000 * 60 + nanos / 60_000_000_000 % 60) * 60 + nanos / 1_000_000_000 % 60) * 1_000_000_000 + n) whole ∙ clock_sum nanos small,
    )

pub written : LawTimeText
unfolding time_text
written at small =
    let days = at / 86_400_000_000_000 in
    let nanos = at % 86_400_000_000_000 in
    let day = day_after-is days (omega arith) in
    let clock = clock_is nanos (omega arith) in
    record {
      date = day_after days;
      clock = clock_of nanos;
      zone = utc;
      is_date = day.is;
      is_time = clock.0;
      is_distance = refl;
      spelled = refl;
      shows = omega (arith, day.counted, clock.1);
      small = small;
    }

pub written_is_read : LawRoundTrip
written_is_read at small = (time_read (time_text at) at).1 (written at small)
