-- What the readers of a time's parts answer, in nanoseconds. Only private clauses cite it.
use Rattle.std.specs.Prelude.{ℕ, ◌^◌, ◌≤ℤ◌, nat_lt, ℤ, pos, negsuc, neg_ℤ, ◌-ℤ◌, Option, Some, None, if◌then◌else◌}
use Rattle.js_base.specs.Bytes.{Bytes}
use Rattle.js_json.specs.Calendar.{Day, first_day}
use Rattle.js_json.specs.Times.{Clock, clock_nanos, fraction_nanos, Zone, utc, ahead, behind, distance, day_nanos}

-- small enough that a few of them can be added up
pub record IsSmall (nanos : ℤ) : Type 0 where
  pub low : neg_ℤ (pos (2 ^ 100)) ≤ℤ nanos
  pub high : nanos ≤ℤ pos (2 ^ 100)

-- from 1970 to the day, and what follows it
abbrev pub day_read : Day × Bytes → ℤ × Bytes
day_read x = (pos (day_nanos x.0) -ℤ pos (day_nanos first_day), x.1)

-- the digits after a dot
abbrev pub fraction_read : Bytes × Bytes → ℕ × Bytes
fraction_read x = (fraction_nanos x.0, x.1)

-- from midnight to the time of day
abbrev pub clock_read : Clock × Bytes → ℤ × Bytes
clock_read x = (pos (clock_nanos x.0), x.1)

-- how far the clock is ahead of UTC
abbrev pub shift : Zone → ℤ
shift utc = pos 0
shift (ahead hours minutes) = pos (distance hours minutes)
shift (behind hours minutes) = neg_ℤ (pos (distance hours minutes))

-- so many nanoseconds after 1970 began, if that is a moment
abbrev pub moment_if : ℤ → Option ℕ
moment_if (pos n) = if nat_lt n (2 ^ 62) then Some n else None
moment_if (negsuc n) = None
