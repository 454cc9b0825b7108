-- What `jiff` prints of an instant is what is written of the moment.
use Rattle.std.proofs.Common.{ℕ, zero, suc, ◌≡◌, ◌+◌, ◌/◌, ◌%◌, ◌^◌, ◌<◌, ℤ, pos, ◌-ℤ◌, [], ◌∷◌, ◌++◌, Some, false, refl, sym, ap, ◌∙◌, arith}
use Rattle.std.proofs.Math.Nat.{pow-suc}
use Rattle.jiff.specs.Types.{Date, Time, DateTime, Timestamp}
use Rattle.jiff.specs.Words.{civil_nanos, epoch_day, time_nanos}
use Rattle.jiff.proofs.SpanFacts.{signed_arith}
use Rattle.jiff.proofs.Family.{civil_nanos-parts, time_nanos_bound, epoch_day_injective}
use Rattle.jiff_fmt.specs.Text.{pad2, pad4, year_text, places, fraction_part, datetime_text, zulu_text}
use Rattle.jiff_fmt.specs.Printer.{options, IsTimestampText}
use Rattle.jiff_fmt.specs.declared.temporal.printer.DateTimePrinter.{DateTimePrinter}
use Rattle.js_base.specs.Bytes.{Bytes}
use Rattle.js_json.specs.Calendar.{Day, days_to, first_day, day_after}
use Rattle.js_json.specs.Times.{in_digits, time_text}
use Rattle.js_json.proofs.TimeParts.{DayFacts, day_facts}
use Rattle.js_json.proofs.Days.{day_after-is}
use Rattle.js_json.proofs.CivilDays.{epoch_day-is}

-- ---- digits

pad2-is : (n : ℕ) → pad2 n ≡ in_digits 2 n
pad2-is n = let last : n % 10 ≡ n % 10 / 1 = omega arith in ap (λ k. (48 + n / 10) ∷ (48 + k) ∷ []) last

four : (n : ℕ) → (n / 100 / 10 ≡ n / 1000) × (n / 100 % 10 ≡ n % 1000 / 100) × (n % 100 / 10 ≡ n % 1000 % 100 / 10) × (n % 100 % 10 ≡ n % 1000 % 100 % 10 / 1)
four n = (omega arith, omega arith, omega arith, omega arith)

pad4-is : (n : ℕ) → pad4 n ≡ in_digits 4 n
pad4-is n =
    let f = four n in
    ap (λ k. (48 + k) ∷ (48 + n / 100 % 10) ∷ (48 + n % 100 / 10) ∷ (48 + n % 100 % 10) ∷ []) f.0
    ∙ ap (λ k. (48 + n / 1000) ∷ (48 + k) ∷ (48 + n % 100 / 10) ∷ (48 + n % 100 % 10) ∷ []) f.1
    ∙ ap (λ k. (48 + n / 1000) ∷ (48 + n % 1000 / 100) ∷ (48 + k) ∷ (48 + n % 100 % 10) ∷ []) f.2
    ∙ ap (λ k. (48 + n / 1000) ∷ (48 + n % 1000 / 100) ∷ (48 + n % 1000 % 100 / 10) ∷ (48 + k) ∷ []) f.3

places-is : (k n : ℕ) → places k (10 ^ k) n ≡ in_digits k n
unfolding places
places-is zero n = refl
places-is (suc k) n =
    let tenth : 10 ^ suc k / 10 ≡ 10 ^ k = omega (arith, pow-suc 10 k) in
    ap (λ w. (48 + n / w) ∷ places k w (n % w)) tenth ∙ ap (λ ds. (48 + n / 10 ^ k) ∷ ds) (places-is k (n % 10 ^ k))

fraction-is : (n : ℕ) → fraction_part (Some 9) n ≡ 46 ∷ in_digits 9 n
fraction-is n = ap (λ ds. 46 ∷ ds) (places-is 9 n)

-- a text of a datetime, by its parts
abbrev shape : Bytes → Bytes → Bytes → Bytes → Bytes → Bytes → Bytes → Bytes
shape year month day hour minute second fraction = (year ++ 45 ∷ [] ++ month ++ 45 ∷ [] ++ day) ++ 84 ∷ (hour ++ 58 ∷ minute ++ 58 ∷ second ++ fraction) ++ 90 ∷ []

shapes_alike : (y m d h n s : ℕ) (f : ℕ) → shape (pad4 y) (pad2 m) (pad2 d) (pad2 h) (pad2 n) (pad2 s) (fraction_part (Some 9) f)
    ≡ shape (in_digits 4 y) (in_digits 2 m) (in_digits 2 d) (in_digits 2 h) (in_digits 2 n) (in_digits 2 s) (46 ∷ in_digits 9 f)
shapes_alike y m d h n s f =
    ap (λ x. shape x (pad2 m) (pad2 d) (pad2 h) (pad2 n) (pad2 s) (fraction_part (Some 9) f)) (pad4-is y)
    ∙ ap (λ x. shape (in_digits 4 y) x (pad2 d) (pad2 h) (pad2 n) (pad2 s) (fraction_part (Some 9) f)) (pad2-is m)
    ∙ ap (λ x. shape (in_digits 4 y) (in_digits 2 m) x (pad2 h) (pad2 n) (pad2 s) (fraction_part (Some 9) f)) (pad2-is d)
    ∙ ap (λ x. shape (in_digits 4 y) (in_digits 2 m) (in_digits 2 d) x (pad2 n) (pad2 s) (fraction_part (Some 9) f)) (pad2-is h)
    ∙ ap (λ x. shape (in_digits 4 y) (in_digits 2 m) (in_digits 2 d) (in_digits 2 h) x (pad2 s) (fraction_part (Some 9) f)) (pad2-is n)
    ∙ ap (λ x. shape (in_digits 4 y) (in_digits 2 m) (in_digits 2 d) (in_digits 2 h) (in_digits 2 n) x (fraction_part (Some 9) f)) (pad2-is s)
    ∙ ap (λ x. shape (in_digits 4 y) (in_digits 2 m) (in_digits 2 d) (in_digits 2 h) (in_digits 2 n) (in_digits 2 s) x) (fraction-is f)

-- ---- the parts

-- a day of the calendar as a date of `jiff`
date_of : (d : Day) → DayFacts d → Date
date_of d f = record {
  year = pos d.year;
  month = d.month;
  day = d.day;
  year_in = (omega (arith, signed_arith), omega (arith, signed_arith, f.year));
  month_in = (f.from_january, f.to_december);
  day_in = (f.from_first, f.within);
}

number_is : (days first n : ℕ) (number : ℤ) → number ≡ pos days -ℤ pos first → first + n ≡ days → number ≡ pos n
number_is days first n number is counted = omega (arith, signed_arith)

-- the date with this day number is the day that lies so many days on
same_date : (date : Date) (n : ℕ) → n < 60000 → epoch_day date ≡ pos n → (date.year ≡ pos (day_after n).year) × (date.month ≡ (day_after n).month) × (date.day ≡ (day_after n).day)
unfolding date_of
same_date date n few is =
    let after = day_after-is n few in
    let made = date_of (day_after n) (day_facts (day_after n) after.is) in
    let number = number_is (days_to (day_after n)) (days_to first_day) n (epoch_day made) (epoch_day-is made (omega (arith, signed_arith))) after.counted in
    epoch_day_injective date made (is ∙ sym number)

same_time : (t : Time) (nanos : ℕ) → time_nanos t ≡ nanos
    → (t.hour ≡ nanos / 3_600_000_000_000) × (t.minute ≡ nanos / 60_000_000_000 % 60) × (t.second ≡ nanos / 1_000_000_000 % 60) × (t.subsec_nanosecond ≡ nanos % 1_000_000_000)
same_time t nanos is = (omega arith, omega arith, omega arith, omega arith)

day_part : (dt : DateTime) (at : ℕ) → civil_nanos dt ≡ pos at → epoch_day dt.date ≡ pos (at / 86_400_000_000_000)
day_part dt at is = omega (arith, signed_arith, civil_nanos-parts dt, time_nanos_bound dt.time)

clock_part : (dt : DateTime) (at : ℕ) → civil_nanos dt ≡ pos at → time_nanos dt.time ≡ at % 86_400_000_000_000
clock_part dt at is = omega (arith, signed_arith, civil_nanos-parts dt, time_nanos_bound dt.time)

-- ---- the text

parts_alike : (year : ℤ) (y m m' d d' h h' n n' s s' f f' : ℕ) → year ≡ pos y → m ≡ m' → d ≡ d' → h ≡ h' → n ≡ n' → s ≡ s' → f ≡ f'
    → shape (year_text year) (pad2 m) (pad2 d) (pad2 h) (pad2 n) (pad2 s) (fraction_part (Some 9) f) ≡ shape (pad4 y) (pad2 m') (pad2 d') (pad2 h') (pad2 n') (pad2 s') (fraction_part (Some 9) f')
parts_alike year y m m' d d' h h' n n' s s' f f' ey em ed eh en es ef =
    ap (λ x. shape (year_text x) (pad2 m) (pad2 d) (pad2 h) (pad2 n) (pad2 s) (fraction_part (Some 9) f)) ey
    ∙ ap (λ x. shape (pad4 y) (pad2 x) (pad2 d) (pad2 h) (pad2 n) (pad2 s) (fraction_part (Some 9) f)) em
    ∙ ap (λ x. shape (pad4 y) (pad2 m') (pad2 x) (pad2 h) (pad2 n) (pad2 s) (fraction_part (Some 9) f)) ed
    ∙ ap (λ x. shape (pad4 y) (pad2 m') (pad2 d') (pad2 x) (pad2 n) (pad2 s) (fraction_part (Some 9) f)) eh
    ∙ ap (λ x. shape (pad4 y) (pad2 m') (pad2 d') (pad2 h') (pad2 x) (pad2 s) (fraction_part (Some 9) f)) en
    ∙ ap (λ x. shape (pad4 y) (pad2 m') (pad2 d') (pad2 h') (pad2 n') (pad2 x) (fraction_part (Some 9) f)) es
    ∙ ap (λ x. shape (pad4 y) (pad2 m') (pad2 d') (pad2 h') (pad2 n') (pad2 s') (fraction_part (Some 9) x)) ef

datetime_is : (dt : DateTime) (at : ℕ) → civil_nanos dt ≡ pos at → at < 2 ^ 62 → datetime_text false 84 (Some 9) dt ++ zulu_text false ≡ time_text at
unfolding time_text
datetime_is dt at is small =
    let date = same_date dt.date (at / 86_400_000_000_000) (omega arith) (day_part dt at is) in
    let day = day_after (at / 86_400_000_000_000) in
    let nanos = at % 86_400_000_000_000 in
    let clock = same_time dt.time nanos (clock_part dt at is) in
    parts_alike dt.date.year day.year dt.date.month day.month dt.date.day day.day dt.time.hour (nanos / 3_600_000_000_000) dt.time.minute (nanos / 60_000_000_000 % 60) dt.time.second (nanos / 1_000_000_000 % 60)
    dt.time.subsec_nanosecond (nanos % 1_000_000_000) date.0 date.1 date.2 clock.0 clock.1 clock.2 clock.3
    ∙ shapes_alike day.year day.month day.day (nanos / 3_600_000_000_000) (nanos / 60_000_000_000 % 60) (nanos / 1_000_000_000 % 60) (nanos % 1_000_000_000)

pub printed-is : (p : DateTimePrinter) (t : Timestamp) (text : Bytes) (at : ℕ) → options p ≡ (false, 84, Some 9) → IsTimestampText p t text → t.nanosecond ≡ pos at → at < 2 ^ 62 → text ≡ time_text at
printed-is p t text at o h is small =
    let lower : p.lowercase ≡ false = ap (λ x. x.0) o in
    let separator : p.separator ≡ 84 = ap (λ x. x.1) o in
    let precision : p.precision ≡ Some 9 = ap (λ x. x.2) o in
    rw (h.2, lower, separator, precision) (datetime_is h.0 at (h.1 ∙ is) small)
