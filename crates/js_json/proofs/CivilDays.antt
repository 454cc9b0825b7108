-- The days that `jiff` counts are those of the calendar here.
use Rattle.std.proofs.Common.{ℕ, zero, suc, ◌≡◌, ◌+◌, ◌-◌, ◌*◌, ◌≤◌, ℤ, pos, negsuc, ◌-ℤ◌, ◌*ℤ◌, ◌≤ℤ◌, refl, sym, ap, ◌∙◌, arith, unsigned_abs}
use Rattle.jiff_core.specs.Calendar.{days_in_year, days_in_month, days_of_years, days_of_months as civil_days_of_months, day_count, days_from_civil}
use Rattle.jiff_core.proofs.SignedLemmas.{signed_arith}
use Rattle.jiff.specs.Types.{Date}
use Rattle.jiff.specs.Words.{epoch_day, IsYmd}
use Rattle.js_json.specs.Calendar.{Day, days_before, days_of_months, days_to, first_day}
use Rattle.js_json.specs.Times.{day_nanos}

next_year : (n : ℕ) → days_of_years (suc n) ≡ days_of_years n + days_in_year (pos n -ℤ pos 10000)
unfolding days_of_years
next_year n = refl

next_here : (n : ℕ) → days_before (suc n) ≡ days_before n + days_in_year (pos n)
unfolding days_before
next_here n = refl

none_here : days_before 0 ≡ 0
unfolding days_before
none_here = refl

-- years count from -10000 there, and from 0 here
years : (n : ℕ) → days_of_years (n + 10000) ≡ days_of_years 10000 + days_before n
years zero =
    let from : 0 + 10000 ≡ 10000 = omega arith in
    ap days_of_years from ∙ omega (arith, none_here)
years (suc n) =
    let from : suc n + 10000 ≡ suc (n + 10000) = omega arith in
    let year : pos (n + 10000) -ℤ pos 10000 ≡ pos n = omega (arith, signed_arith) in
    let there = ap days_of_years from ∙ next_year (n + 10000) ∙ ap (λ y. days_of_years (n + 10000) + days_in_year y) year in
    there ∙ omega (arith, years n, next_here n)

months : (year n : ℕ) → civil_days_of_months (pos year) n ≡ days_of_months year n
unfolding civil_days_of_months days_of_months
months year zero = refl
months year (suc n) = ap (λ days. days + days_in_month (pos year) (suc n)) (months year n)

count : (year month day : ℕ) → 1 ≤ day → day_count (pos year) month day ≡ days_of_years 10000 + days_to (record { year = year; month = month; day = day })
unfolding day_count
count year month day low = omega (arith, years year, months year (month - 1))

since_first : (there here first there' here' : ℕ) → there ≡ first + here → there' ≡ first + here' → pos there -ℤ pos there' ≡ pos here -ℤ pos here'
since_first there here first there' here' e e' = omega (arith, signed_arith)

days_from_civil-is : (year month day : ℕ) → 1 ≤ day → days_from_civil (pos year) month day ≡ pos (days_to (record { year = year; month = month; day = day })) -ℤ pos (days_to first_day)
unfolding days_from_civil
days_from_civil-is year month day low =
    since_first (day_count (pos year) month day) (days_to (record { year = year; month = month; day = day })) (days_of_years 10000) (day_count (pos 1970) 1 1) (days_to first_day)
    (count year month day low) (count 1970 1 1 (omega arith))

year_is : (z : ℤ) → pos 0 ≤ℤ z → pos (unsigned_abs z) ≡ z
year_is (pos n) h = refl
year_is (negsuc n) h = absurd (omega (arith, signed_arith))

-- a date of `jiff` as a day
abbrev pub day_of : Date → Day
day_of d = record { year = unsigned_abs d.year; month = d.month; day = d.day }

-- the day number of a date
pub epoch_day-is : (d : Date) → pos 0 ≤ℤ d.year → epoch_day d ≡ pos (days_to (day_of d)) -ℤ pos (days_to first_day)
epoch_day-is d late =
    ap (λ y. days_from_civil y d.month d.day) (sym (year_is d.year late)) ∙ days_from_civil-is (unsigned_abs d.year) d.month d.day d.day_in.0

less_itself : (n : ℕ) → pos n -ℤ pos n ≡ pos 0
less_itself n = omega (arith, signed_arith)

-- 1 January 1970 has the number 0
pub epoch_day-first : (d : Date) → IsYmd (pos 1970) (pos 1) (pos 1) d → epoch_day d ≡ pos 0
epoch_day-first d is =
    let month : d.month ≡ 1 = cc in
    let day : d.day ≡ 1 = cc in
    rw (is.0, month, day) (days_from_civil-is 1970 1 1 (omega arith) ∙ less_itself (days_to first_day))

in_nanos : (days first : ℕ) (number : ℤ) → number ≡ pos days -ℤ pos first → number *ℤ pos 86_400_000_000_000 ≡ pos (days * 86_400_000_000_000) -ℤ pos (first * 86_400_000_000_000)
in_nanos days first number e = omega (arith, signed_arith)

-- and in nanoseconds
pub epoch_day-nanos : (d : Date) → pos 0 ≤ℤ d.year → epoch_day d *ℤ pos 86_400_000_000_000 ≡ pos (day_nanos (day_of d)) -ℤ pos (day_nanos first_day)
epoch_day-nanos d late = in_nanos (days_to (day_of d)) (days_to first_day) (epoch_day d) (epoch_day-is d late)
