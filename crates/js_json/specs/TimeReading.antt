-- What is read of the text of a moment: functions, which decide for all bytes what the grammar says by a relation.
use Rattle.std.specs.Prelude.{ℕ, ◌+◌, ◌-◌, ◌^◌, ◌==◌, nat_lt, nat_le, ◌&&◌, Bool, [], ◌∷◌, length, take, drop, Option, Some, None, option_map, if◌then◌else◌}
use Rattle.std.specs.Char.{is_ascii_digit}
use Rattle.std.specs.List.{prefix_len}
use Rattle.std.specs.Result.{result_ok}
use Rattle.js_base.specs.Bytes.{Bytes}
use Rattle.js_base.specs.Decimal.{number_of}
use Rattle.js_json.specs.Calendar.{Day, is_day, first_day}
use Rattle.js_json.specs.Times.{Clock, is_clock, Zone, utc, ahead, behind, is_zone, day_nanos, clock_nanos, nanos_ahead, nanos_behind}

-- one reading after the other
infixl 10 ◌>>=◌
abbrev pub ◌>>=◌ : {A B : Type 0} → Option A → (A → Option B) → Option B
None >>= next = None
(Some a) >>= next = next a

-- the number in the first so many bytes, which are digits, and what follows them
unfoldable pub number_at : ℕ → Bytes → Option (ℕ × Bytes)
number_at width text =
    if nat_lt (length text) width then None else option_map (λ n. (n, drop width text)) (result_ok (number_of (take width text)))

-- what follows this byte
unfoldable pub past : ℕ → Bytes → Option Bytes
past mark [] = None
past mark (byte ∷ rest) = if byte == mark then Some rest else None

-- the number in the two digits after this byte, and what follows them
unfoldable pub two_behind : ℕ → Bytes → Option (ℕ × Bytes)
two_behind mark text = past mark text >>= number_at 2

abbrev pub if_passed : {X : Type 0} → (X → Bool) → X → Bytes → Option (X × Bytes)
if_passed test x rest = if test x then Some (x, rest) else None

-- a day of the calendar, and what follows it
unfoldable pub day_at : Bytes → Option (Day × Bytes)
day_at text = do
  year ← number_at 4 text
  month ← two_behind 45 year.1
  day ← two_behind 45 month.1
  if_passed is_day (record { year = year.0; month = month.0; day = day.0 }) day.1

abbrev pub few_digits : ℕ → Bytes → Option (Bytes × Bytes)
few_digits count text = if nat_le 1 count && nat_le count 9 then Some (take count text, drop count text) else None

-- the digits after a dot, 1 to 9 of them, or none if there is no dot, and what follows them
unfoldable pub fraction_at : Bytes → Option (Bytes × Bytes)
fraction_at [] = Some ([], [])
fraction_at (byte ∷ rest) = if byte == 46 then few_digits (prefix_len is_ascii_digit rest) rest else Some ([], byte ∷ rest)

-- a time of day, and what follows it
unfoldable pub clock_at : Bytes → Option (Clock × Bytes)
clock_at text = do
  hour ← number_at 2 text
  minute ← two_behind 58 hour.1
  second ← two_behind 58 minute.1
  fraction ← fraction_at second.1
  if_passed is_clock (record { hour = hour.0; minute = minute.0; second = second.0; fraction = fraction.0 }) fraction.1

abbrev pub at_end : Zone → Bytes → Option Zone
at_end zone [] = if is_zone zone then Some zone else None
at_end zone (_ ∷ _) = None

-- hours and minutes to this side of UTC, with nothing after it
unfoldable pub distance_at : (ℕ → ℕ → Zone) → Bytes → Option Zone
distance_at side text = do
  hours ← number_at 2 text
  minutes ← two_behind 58 hours.1
  at_end (side hours.0 minutes.0) minutes.1

-- how far the clock is from UTC, with nothing after it
unfoldable pub zone_at : Bytes → Option Zone
zone_at [] = None
zone_at (byte ∷ rest) =
    if byte == 90 then at_end utc rest
    else if byte == 43 then distance_at ahead rest
    else if byte == 45 then distance_at behind rest else None

abbrev pub difference : ℕ → ℕ → Option ℕ
difference from to = if nat_le from to && nat_lt (to - from) (2 ^ 62) then Some (to - from) else None

-- the moment at which the clock shows that, from 1970 on and below 2^62
abbrev pub moment_of : Day → Clock → Zone → Option ℕ
moment_of d c z = difference (day_nanos first_day + nanos_ahead z) (day_nanos d + clock_nanos c + nanos_behind z)

-- the moment whose text this is
unfoldable pub time_at : Bytes → Option ℕ
time_at text = do
  day ← day_at text
  clock_text ← past 84 day.1
  clock ← clock_at clock_text
  zone ← zone_at clock.1
  moment_of day.0 clock.0 zone
