-- The Gregorian calendar, also before it was made: how long years and months are, and how many days lie before a day.
use Rattle.std.specs.Prelude.{ℕ, zero, suc, ◌+◌, ◌-◌, ◌%◌, ◌==◌, nat_lt, nat_le, ◌&&◌, ◌||◌, not, Bool, if◌then◌else◌}

-- every fourth year, but of the full hundreds only every fourth
abbrev pub is_leap : ℕ → Bool
is_leap year = (year % 4 == 0) && (not (year % 100 == 0) || (year % 400 == 0))

abbrev pub days_of_year : ℕ → ℕ
days_of_year year = if is_leap year then 366 else 365

-- thirty days have September, April, June and November
abbrev pub days_of_month : ℕ → ℕ → ℕ
days_of_month year month =
    if month == 2 then (if is_leap year then 29 else 28)
    else if (month == 4) || (month == 6) || (month == 9) || (month == 11) then 30 else 31

-- a day, by its year, its month and its place in the month
pub record Day : Type 0 where
  pub year : ℕ
  pub month : ℕ
  pub day : ℕ

-- the calendar has it, in a year of four digits
abbrev pub is_day : Day → Bool
is_day d = nat_lt d.year 10000 && nat_le 1 d.month && nat_le d.month 12 && nat_le 1 d.day && nat_le d.day (days_of_month d.year d.month)

-- the days of the years from 0 on that end before this one
unfoldable pub days_before : ℕ → ℕ
days_before zero = 0
days_before (suc year) = days_before year + days_of_year year

-- the days of so many months from the beginning of the year on
unfoldable pub days_of_months : ℕ → ℕ → ℕ
days_of_months year zero = 0
days_of_months year (suc months) = days_of_months year months + days_of_month year (suc months)

-- the days from 1 January of the year 0 to this one
abbrev pub days_to : Day → ℕ
days_to d = days_before d.year + days_of_months d.year (d.month - 1) + (d.day - 1)

-- 1 January 1970, with which the moments begin
abbrev pub first_day : Day
first_day = record { year = 1970; month = 1; day = 1 }

-- the year in which that many days after a New Year's Day lie, and how many of them are left in it
unfoldable pub year_after : ℕ → ℕ → ℕ → ℕ × ℕ
year_after zero year days = (year, days)
year_after (suc turns) year days =
    if nat_lt days (days_of_year year) then (year, days) else year_after turns (year + 1) (days - days_of_year year)

-- the month in which that many days after the first of a month lie, and how many of them are left in it
unfoldable pub month_after : ℕ → ℕ → ℕ → ℕ → ℕ × ℕ
month_after zero year month days = (month, days)
month_after (suc turns) year month days =
    if nat_lt days (days_of_month year month) then (month, days) else month_after turns year (month + 1) (days - days_of_month year month)

abbrev pub day_in_year : ℕ × ℕ → Day
day_in_year (year, days) = let month = month_after 11 year 1 days in record { year = year; month = month.0; day = month.1 + 1 }

-- the day that many days after 1 January 1970
abbrev pub day_after : ℕ → Day
day_after days = day_in_year (year_after days 1970 days)
