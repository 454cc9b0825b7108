-- How a moment is written, after RFC 3339: `YYYY-MM-DDTHH:MM:SS`, perhaps a dot and digits, and then `Z` or how far the clock is from UTC.
use Rattle.std.specs.Prelude.{ℕ, zero, suc, ◌≡◌, ◌+◌, ◌-◌, ◌*◌, ◌/◌, ◌%◌, ◌^◌, ◌<◌, nat_lt, nat_le, ◌&&◌, Bool, true, IsTrue, [], ◌∷◌, ◌++◌, length}
use Rattle.std.specs.Char.{is_ascii_digit}
use Rattle.std.specs.List.{list_all}
use Rattle.js_base.specs.Bytes.{Bytes}
use Rattle.js_base.specs.Decimal.{value_of}
use Rattle.js_json.specs.Calendar.{Day, is_day, days_to, first_day, day_after}

-- a number in so many digits
abbrev pub in_digits : ℕ → ℕ → Bytes
in_digits zero n = []
in_digits (suc width) n = (48 + n / 10 ^ width) ∷ in_digits width (n % 10 ^ width)

-- a time of day; `fraction` are the digits after the dot, and empty if there is none
pub record Clock : Type 0 where
  pub hour : ℕ
  pub minute : ℕ
  pub second : ℕ
  pub fraction : Bytes

-- the clock shows UTC, or it is so many hours and minutes ahead of it or behind it
pub data Zone : Type 0 where
  utc : Zone
  ahead : ℕ → ℕ → Zone
  behind : ℕ → ℕ → Zone

-- ---- which of them there are

abbrev pub is_fraction : Bytes → Bool
is_fraction digits = list_all is_ascii_digit digits && nat_le (length digits) 9

abbrev pub is_clock : Clock → Bool
is_clock c = nat_lt c.hour 24 && nat_lt c.minute 60 && nat_lt c.second 60 && is_fraction c.fraction

abbrev pub is_zone : Zone → Bool
is_zone utc = true
is_zone (ahead hours minutes) = nat_lt hours 24 && nat_lt minutes 60
is_zone (behind hours minutes) = nat_lt hours 24 && nat_lt minutes 60

-- ---- their texts

-- `2024-02-29`
abbrev pub day_text : Day → Bytes
day_text d = in_digits 4 d.year ++ 45 ∷ in_digits 2 d.month ++ 45 ∷ in_digits 2 d.day

abbrev pub fraction_text : Bytes → Bytes
fraction_text [] = []
fraction_text (digit ∷ more) = 46 ∷ digit ∷ more

-- `17:30:05`, or `17:30:05.25`
abbrev pub clock_text : Clock → Bytes
clock_text c = in_digits 2 c.hour ++ 58 ∷ in_digits 2 c.minute ++ 58 ∷ in_digits 2 c.second ++ fraction_text c.fraction

-- `Z`, `+05:30` or `-05:30`
abbrev pub zone_text : Zone → Bytes
zone_text utc = 90 ∷ []
zone_text (ahead hours minutes) = 43 ∷ in_digits 2 hours ++ 58 ∷ in_digits 2 minutes
zone_text (behind hours minutes) = 45 ∷ in_digits 2 hours ++ 58 ∷ in_digits 2 minutes

-- `2024-02-29T17:30:05Z`
abbrev pub written : Day → Clock → Zone → Bytes
written d c z = day_text d ++ 84 ∷ clock_text c ++ zone_text z

-- ---- the moment, in nanoseconds

-- digits after the dot
abbrev pub fraction_nanos : Bytes → ℕ
fraction_nanos digits = value_of digits * 10 ^ (9 - length digits)

-- from midnight on
abbrev pub clock_nanos : Clock → ℕ
clock_nanos c = ((c.hour * 60 + c.minute) * 60 + c.second) * 1_000_000_000 + fraction_nanos c.fraction

-- from 1 January of the year 0 on, with no leap seconds
abbrev pub day_nanos : Day → ℕ
day_nanos d = days_to d * 86_400_000_000_000

abbrev pub distance : ℕ → ℕ → ℕ
distance hours minutes = (hours * 60 + minutes) * 60_000_000_000

abbrev pub nanos_ahead : Zone → ℕ
nanos_ahead utc = 0
nanos_ahead (ahead hours minutes) = distance hours minutes
nanos_ahead (behind hours minutes) = 0

abbrev pub nanos_behind : Zone → ℕ
nanos_behind utc = 0
nanos_behind (ahead hours minutes) = 0
nanos_behind (behind hours minutes) = distance hours minutes

-- At this moment, so many nanoseconds after 1970-01-01T00:00:00Z, the clock shows that.
abbrev pub Shows : ℕ → Day → Clock → Zone → Type 0
Shows at d c z = day_nanos first_day + at + nanos_ahead z ≡ day_nanos d + clock_nanos c + nanos_behind z

-- The text is that of this moment.
pub record SpellsTime (text : Bytes) (at : ℕ) : Type 0 where
  pub date : Day
  pub clock : Clock
  pub zone : Zone
  pub is_date : IsTrue (is_day date)
  pub is_time : IsTrue (is_clock clock)
  pub is_distance : IsTrue (is_zone zone)
  pub spelled : text ≡ written date clock zone
  pub shows : Shows at date clock zone
  pub small : at < 2 ^ 62

-- ---- how the server writes a moment

-- so many nanoseconds after midnight, with nine digits after the dot
abbrev pub clock_of : ℕ → Clock
clock_of nanos = record {
  hour = nanos / 3_600_000_000_000;
  minute = nanos / 60_000_000_000 % 60;
  second = nanos / 1_000_000_000 % 60;
  fraction = in_digits 9 (nanos % 1_000_000_000);
}

-- in UTC, with nine digits after the dot
unfoldable pub time_text : ℕ → Bytes
time_text at = written (day_after (at / 86_400_000_000_000)) (clock_of (at % 86_400_000_000_000)) utc
