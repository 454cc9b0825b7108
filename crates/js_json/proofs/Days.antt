-- Counting days off by years and months leads to the day that lies so many days on.
use Rattle.std.proofs.Common.{ℕ, zero, suc, ◌≡◌, ◌+◌, ◌-◌, ◌*◌, ◌<◌, ◌≤◌, Bool, true, false, IsTrue, refl, sym, ap, ◌∙◌, arith, nat_lt, nat_le, ◌&&◌, subst, if◌then◌else◌, cond, add-one, lit≤}
use Rattle.std.proofs.lemmas.Bool.Decides.{nat_tests}
use Rattle.js_json.specs.Calendar.{Day, is_day, is_leap, days_of_year, days_of_month, days_before, days_of_months, days_to, first_day, year_after, month_after, day_after}

year_len : (leap : Bool) → (365 ≤ cond leap 366 365) × (cond leap 366 365 ≤ 366)
year_len true = (lit≤ tt, lit≤ tt)
year_len false = (lit≤ tt, lit≤ tt)

-- ---- years

-- where counting off by years ends
pub record InYear (year days : ℕ) (found : ℕ × ℕ) : Type 0 where
  pub within : found.1 < days_of_year found.0
  pub counted : days_before year + days ≡ days_before found.0 + found.1
  pub later : year ≤ found.0

-- the year after this one
pub days_before-next : (year : ℕ) → days_before (year + 1) ≡ days_before year + days_of_year year
unfolding days_before
days_before-next year = rw add-one refl

pub year_after-is : (turns year days : ℕ) → days ≤ turns → InYear year days (year_after turns year days)
unfolding year_after
year_after-is zero year days few = record { within = omega (arith, year_len (is_leap year)); counted = refl; later = omega arith }
year_after-is (suc turns) year days few = by_test (nat_lt days (days_of_year year)) refl (λ less. year_after-is turns (year + 1) (days - days_of_year year) less)
  where
    by_test : (b : Bool) → nat_lt days (days_of_year year) ≡ b → (days - days_of_year year ≤ turns → InYear (year + 1) (days - days_of_year year) (year_after turns (year + 1) (days - days_of_year year)))
        → InYear year days (if b then (year, days) else year_after turns (year + 1) (days - days_of_year year))
    by_test true below next = record { within = grind (arith, nat_tests); counted = refl; later = omega arith }
    by_test false above next =
        let long : days_of_year year ≤ days = grind (arith, nat_tests) in
        let n = next (omega (arith, year_len (is_leap year))) in
        record { within = n.within; counted = omega (arith, n.counted, days_before-next year, long); later = omega (arith, n.later) }

-- each year has 365 days at least
pub days_before-ge : (year : ℕ) → 365 * year ≤ days_before year
unfolding days_before
days_before-ge zero = omega arith
days_before-ge (suc year) = omega (arith, days_before-ge year, year_len (is_leap year))

-- ---- months

twelve : (leap : Bool) → 31 + cond leap 29 28 + 31 + 30 + 31 + 30 + 31 + 31 + 30 + 31 + 30 + 31 ≡ cond leap 366 365
twelve true = refl
twelve false = refl

-- twelve months are a year
pub days_of_months-year : (year : ℕ) → days_of_months year 12 ≡ days_of_year year
unfolding days_of_months
days_of_months-year year = twelve (is_leap year)

-- where counting off by months ends
pub record InMonth (year days : ℕ) (found : ℕ × ℕ) : Type 0 where
  pub month : (1 ≤ found.0) × (found.0 ≤ 12)
  pub within : found.1 < days_of_month year found.0
  pub counted : days ≡ days_of_months year (found.0 - 1) + found.1

-- one month more
pub days_of_months-next : (year month : ℕ) → 1 ≤ month → days_of_months year month ≡ days_of_months year (month - 1) + days_of_month year month
unfolding days_of_months
days_of_months-next year zero low = absurd (omega arith)
days_of_months-next year (suc month) low = let back : suc month - 1 ≡ month = omega arith in rw back refl

in_december : (year days all : ℕ) → all < days_of_year year → all ≡ days_of_months year 11 + days → InMonth year all (12, days)
in_december year days all short so_far =
    let last = days_of_months-next year 12 (omega arith) in
    let whole = days_of_months-year year in
    record { month = (omega arith, omega arith); within = omega arith; counted = so_far }

-- of so many days of the year, those of the months before this one are taken off
pub month_after-is : (turns year month days all : ℕ) → 1 ≤ month → month + turns ≡ 12 → all < days_of_year year → all ≡ days_of_months year (month - 1) + days → InMonth year all (month_after turns year month days)
unfolding month_after
month_after-is zero year month days all low high short so_far =
    let last : 12 ≡ month = omega arith in
    let before : 11 ≡ month - 1 = omega arith in
    subst (λ (m : ℕ). InMonth year all (m, days)) last (in_december year days all short (so_far ∙ ap (λ m. days_of_months year m + days) (sym before)))
month_after-is (suc turns) year month days all low high short so_far =
    by_test (nat_lt days (days_of_month year month)) refl (λ counted. month_after-is turns year (month + 1) (days - days_of_month year month) all (omega arith) (omega arith) short counted)
  where
    by_test : (b : Bool) → nat_lt days (days_of_month year month) ≡ b
        → (all ≡ days_of_months year (month + 1 - 1) + (days - days_of_month year month) → InMonth year all (month_after turns year (month + 1) (days - days_of_month year month)))
        → InMonth year all (if b then (month, days) else month_after turns year (month + 1) (days - days_of_month year month))
    by_test true below next = record { month = (low, omega arith); within = grind (arith, nat_tests); counted = so_far }
    by_test false above next =
        let long : days_of_month year month ≤ days = grind (arith, nat_tests) in
        let same : month + 1 - 1 ≡ month = omega arith in
        let sum = days_of_months-next year month low in
        next (rw same (omega arith))

-- ---- a day

-- the day is in the calendar, so many days after the first one
pub record IsDayAfter (days : ℕ) (d : Day) : Type 0 where
  pub is : IsTrue (is_day d)
  pub counted : days_to first_day + days ≡ days_to d

no_months : (year : ℕ) → days_of_months year 0 ≡ 0
unfolding days_of_months
no_months year = refl

before_1970 : days_before 1970 ≡ 719528
unfolding days_before
before_1970 = refl

is_found : (year month day most : ℕ) → year < 10000 → 1 ≤ month → month ≤ 12 → 1 ≤ day → day ≤ most
    → IsTrue (nat_lt year 10000 && nat_le 1 month && nat_le month 12 && nat_le 1 day && nat_le day most)
is_found year month day most a b c d e = grind (arith, nat_tests)

day_found : (days : ℕ) (y m : ℕ × ℕ) → days < 60000 → InYear 1970 days y → InMonth y.0 y.1 m → IsDayAfter days (record { year = y.0; month = m.0; day = m.1 + 1 })
day_found days y m few in_year in_month =
    let year : y.0 < 10000 = omega (arith, in_year.counted, days_before-ge y.0, before_1970) in
    let is : IsTrue (is_day (record { year = y.0; month = m.0; day = m.1 + 1 })) = is_found y.0 m.0 (m.1 + 1) (days_of_month y.0 m.0) year in_month.month.0 in_month.month.1 (omega arith) (omega (arith, in_month.within)) in
    let counted : days_to first_day + days ≡ days_to (record { year = y.0; month = m.0; day = m.1 + 1 }) = omega (arith, in_year.counted, in_month.counted, no_months 1970) in
    record { is = is; counted = counted }

pub day_after-is : (days : ℕ) → days < 60000 → IsDayAfter days (day_after days)
day_after-is days few =
    let y = year_after-is days 1970 days (omega arith) in
    let m = month_after-is 11 (year_after days 1970 days).0 1 (year_after days 1970 days).1 (year_after days 1970 days).1 (omega arith) (omega arith) y.within (omega (arith, no_months (year_after days 1970 days).0)) in
    day_found days (year_after days 1970 days) (month_after 11 (year_after days 1970 days).0 1 (year_after days 1970 days).1) few y m
