-- From what the readers of the parts answer to the definitions.
use Rattle.std.proofs.Common.{ℕ, ◌≡◌, ◌+◌, ◌-◌, ◌*◌, ◌^◌, ◌<◌, ◌≤◌, ℤ, pos, negsuc, neg_ℤ, ◌+ℤ◌, ◌-ℤ◌, ◌*ℤ◌, ◌≤ℤ◌, Bool, true, false, ◌&&◌, ◌==◌, IsTrue, [], ◌∷◌, length, take, drop, Option, Some, None, option_map, Result, Ok, Err, refl, sym, ap, ◌∙◌, arith, if◌then◌else◌, nat_lt, nat_le, unsigned_abs, subst, w8, w16, w32, FitsSigned, to_z, of_z, inl, inr, length-take}
use Rattle.std.specs.Char.{is_ascii_digit}
use Rattle.std.specs.List.{list_all, prefix_len}
use Rattle.std.specs.Int.{w128}
use Rattle.std.specs.Result.{result_ok}
use Rattle.std.proofs.lemmas.Bool.Decides.{nat_tests}
use Rattle.std.proofs.lemmas.Bool.{cases_lt}
use Rattle.std.proofs.lemmas.Int.{to_z_pos, to_z-of_z}
use Rattle.std.proofs.lemmas.Option.{none-some}
use Rattle.std.proofs.lemmas.List.Sums.{prefix_len-le-length}
use Rattle.std.proofs.lemmas.List.Folds.{length-prefix_len}
use Rattle.std.proofs.lemmas.Nat.{mul-add-lt, pow-add}
use Rattle.jiff.specs.Types.{Date, Time}
use Rattle.jiff.specs.Words.{IsYmd, IsHms, IsDurationNanos, epoch_day, time_nanos, days_in_month}
use Rattle.jiff.proofs.SpanFacts.{signed_arith}
use Rattle.js_base.specs.Bytes.{Bytes}
use Rattle.js_base.specs.Decimal.{value_of, number_of}
use Rattle.js_json.specs.Calendar.{Day, is_day, days_of_month, first_day}
use Rattle.js_json.specs.Times.{Clock, is_clock, is_fraction, Zone, utc, ahead, behind, fraction_nanos, clock_nanos, nanos_ahead, nanos_behind, distance, day_nanos}
use Rattle.js_json.specs.TimeReading.{◌>>=◌, number_at, past, two_behind, day_at, few_digits, fraction_at, clock_at, at_end, distance_at, zone_at, difference, time_at}
use Rattle.js_json.specs.Civil.{IsSmall, day_read, fraction_read, clock_read, shift, moment_if}
use Rattle.js_json.proofs.CivilDays.{day_of, epoch_day-nanos}
use Rattle.js_json.proofs.Digits.{power, Spells, number_of-spells, number_of-from_spells, value_of-lt}
use Rattle.js_json.proofs.TimeParts.{few_digits-lt, not_short}
use Rattle.js_json.proofs.ClockParts.{front_passes, fraction_at-takes}

-- what a call gave
pub ok_of : {X E : Type 0} (r : Result X E) (x : X) → result_ok r ≡ Some x → r ≡ Ok x
ok_of (Ok y) x is = cc
ok_of (Err e) x is = cc

-- ---- numbers of 128 bits

abbrev pub casted : ℤ → ℤ
casted z = to_z w128 (of_z w128 z)

-- a small number is passed as it is
pub fits : (z : ℤ) → IsSmall z → casted z ≡ z
fits z small = to_z-of_z w128 z (omega (arith, signed_arith, small.low, small.high))

pub duration_fits : (z : ℤ) → IsDurationNanos z → casted z ≡ z
duration_fits z near = to_z-of_z w128 z (omega (arith, signed_arith, near.0, near.1))

two_fit : (a b : ℤ) → IsSmall a → IsSmall b → casted (casted a +ℤ casted b) ≡ a +ℤ b
two_fit a b small_a small_b =
    ap (λ x. casted (x +ℤ casted b)) (fits a small_a) ∙ ap (λ x. casted (a +ℤ x)) (fits b small_b) ∙ to_z-of_z w128 (a +ℤ b) (omega (arith, signed_arith, small_a.low, small_a.high, small_b.low, small_b.high))

three_same : (a b d : ℤ) → IsSmall a → IsSmall b → IsSmall d → casted (casted a +ℤ casted b) -ℤ casted d ≡ a +ℤ b -ℤ d
three_same a b d small_a small_b small_d = ap (λ x. x -ℤ casted d) (two_fit a b small_a small_b) ∙ ap (λ x. a +ℤ b -ℤ x) (fits d small_d)

-- two of them added up, less a third, is no number beyond 128 bits
pub three_fit : (a b d : ℤ) → IsSmall a → IsSmall b → IsSmall d → FitsSigned w128 (casted (casted a +ℤ casted b) -ℤ casted d)
three_fit a b d small_a small_b small_d =
    subst (λ (x : ℤ). FitsSigned w128 x) (sym (three_same a b d small_a small_b small_d)) (omega (arith, signed_arith, small_a.low, small_a.high, small_b.low, small_b.high, small_d.low, small_d.high))

pub sum_fits : (a b d : ℤ) → IsSmall a → IsSmall b → IsSmall d → casted (casted (casted a +ℤ casted b) -ℤ casted d) ≡ a +ℤ b -ℤ d
sum_fits a b d small_a small_b small_d =
    ap casted (three_same a b d small_a small_b small_d) ∙ to_z-of_z w128 (a +ℤ b -ℤ d) (omega (arith, signed_arith, small_a.low, small_a.high, small_b.low, small_b.high, small_d.low, small_d.high))

-- from one day to another
pub days_between : (nanos n first : ℤ) (day : ℤ) → IsDurationNanos nanos → nanos ≡ n → n ≡ (day -ℤ first) *ℤ pos 86_400_000_000_000 → first ≡ pos 0 → casted nanos ≡ day *ℤ pos 86_400_000_000_000
days_between nanos n first day near is since zero' =
    let less : day -ℤ pos 0 ≡ day = omega (arith, signed_arith) in
    duration_fits nanos near ∙ is ∙ since ∙ ap (λ z. (day -ℤ z) *ℤ pos 86_400_000_000_000) zero' ∙ ap (λ z. z *ℤ pos 86_400_000_000_000) less

-- ---- a number

-- digits spell less than that power of ten
pub number-lt : (width : ℕ) (text : Bytes) (n : ℕ) → length text ≡ width → Ok n ≡ number_of text → n < 10 ^ width
number-lt width text n len is =
    let s = number_of-spells text n (ap result_ok (sym is)) in
    omega (arith, value_of-lt text s.digits, s.value, ap (λ k. 10 ^ k) len)

-- ---- a day

is_civil : (y m d most : ℕ) → y < 10000 → 1 ≤ m → m ≤ 12 → 1 ≤ d → d ≤ most → IsTrue (nat_lt y 10000 && nat_le 1 m && nat_le m 12 && nat_le 1 d && nat_le d most)
is_civil y m d most a b c e f = grind (arith, nat_tests)

pos_same : (m n : ℕ) → pos m ≡ pos n → m ≡ n
pos_same m n e = cc

days_alike : (d e : Day) → d.year ≡ e.year → d.month ≡ e.month → d.day ≡ e.day → d ≡ e
days_alike d e year month day =
    ap (λ n. record { year = n; month = d.month; day = d.day }) year ∙ ap (λ n. record { year = e.year; month = n; day = d.day }) month ∙ ap (λ n. record { year = e.year; month = e.month; day = n }) day

-- the date that has these digits is the day that they spell
pub day-read : (text : Bytes) (y m d : ℕ × Bytes) (date : Date) (nanos : ℤ) → Some y ≡ number_at 4 text → Some m ≡ two_behind 45 y.1 → Some d ≡ two_behind 45 m.1 → y.0 < 10000 → m.0 < 100 → d.0 < 100
    → IsYmd (to_z w16 y.0) (to_z w8 m.0) (to_z w8 d.0) date → nanos ≡ epoch_day date *ℤ pos 86_400_000_000_000 → Some (nanos, d.1) ≡ option_map day_read (day_at text)
unfolding day_at
day-read text y m d date nanos ey em ed ly lm ld is since =
    let year : date.year ≡ pos y.0 = is.0 ∙ to_z_pos w16 y.0 (omega arith) in
    let month : date.month ≡ m.0 = pos_same _ _ (is.1 ∙ to_z_pos w8 m.0 (omega arith)) in
    let day : date.day ≡ d.0 = pos_same _ _ (is.2 ∙ to_z_pos w8 d.0 (omega arith)) in
    let most : days_in_month date.year date.month ≡ days_of_month y.0 m.0 = ap (λ z. days_in_month z date.month) year ∙ ap (λ n. days_of_month y.0 n) month in
    let made : Day = record { year = y.0; month = m.0; day = d.0 } in
    let test : IsTrue (is_day made) =
    is_civil y.0 m.0 d.0 (days_of_month y.0 m.0) ly (omega (arith, date.month_in.0, month)) (omega (arith, date.month_in.1, month)) (omega (arith, date.day_in.0, day)) (omega (arith, date.day_in.1, day, most)) in
    let same : day_of date ≡ made = days_alike (day_of date) made (ap unsigned_abs year) month day in
    let late : pos 0 ≤ℤ date.year = omega (arith, signed_arith, year) in
    let number : nanos ≡ pos (day_nanos made) -ℤ pos (day_nanos first_day) = since ∙ epoch_day-nanos date late ∙ ap (λ (x : Day). pos (day_nanos x) -ℤ pos (day_nanos first_day)) same in
    rw (← ey, ← em, ← ed, test) (ap (λ (n : ℤ). Some (n, d.1)) number)

-- ---- a fraction

-- what was found, under a function
pub map_some : {A B : Type 0} (f : A → B) (o : Option A) (y : B) → Some y ≡ option_map f o → (x : A) × (o ≡ Some x) × (y ≡ f x)
map_some f None y is = cc
map_some f (Some x) y is = (x, refl, cc)

pub no_fraction-read : (text : Bytes) → None ≡ past 46 text → Some (0, text) ≡ option_map fraction_read (fraction_at text)
unfolding past fraction_at
no_fraction-read [] is = refl
no_fraction-read (byte ∷ rest) is = by_dot (byte == 46) is
  where
    by_dot : (b : Bool) → None ≡ (if b then Some rest else None) → Some (0, byte ∷ rest) ≡ option_map fraction_read (if b then few_digits (prefix_len is_ascii_digit rest) rest else Some ([], byte ∷ rest))
    by_dot true e = cc
    by_dot false e = refl

-- after a dot come the digits
behind_dot : (text rest : Bytes) (count : ℕ) → Some rest ≡ past 46 text → count ≡ prefix_len is_ascii_digit rest → fraction_at text ≡ few_digits count rest
unfolding past fraction_at
behind_dot [] rest count is len = cc
behind_dot (byte ∷ more) rest count is len = by_dot (byte == 46) is
  where
    by_dot : (b : Bool) → Some rest ≡ (if b then Some more else None) → (if b then few_digits (prefix_len is_ascii_digit more) more else Some ([], byte ∷ more)) ≡ few_digits count rest
    by_dot true e = let same : more ≡ rest = cc in ap (λ r. few_digits (prefix_len is_ascii_digit r) r) same ∙ ap (λ n. few_digits n rest) (sym len)
    by_dot false e = cc

too_many : (count : ℕ) (rest : Bytes) → 9 < count → few_digits count rest ≡ None
too_many count rest many = grind (arith, nat_tests)

too_few : (count : ℕ) (rest : Bytes) → count ≡ 0 → few_digits count rest ≡ None
too_few count rest none = rw none refl

few_found : (count : ℕ) (rest : Bytes) → 0 < count → count ≤ 9 → few_digits count rest ≡ Some (take count rest, drop count rest)
few_found count rest some few = grind (arith, nat_tests)

pub many_digits-read : (text rest : Bytes) (count : ℕ) → Some rest ≡ past 46 text → count ≡ prefix_len is_ascii_digit rest → 9 < count → None ≡ option_map fraction_read (fraction_at text)
many_digits-read text rest count is len many = rw (behind_dot text rest count is len, too_many count rest many) refl

-- the first digits are a number
front_number : (rest : Bytes) (count : ℕ) → count ≡ prefix_len is_ascii_digit rest → 0 < count → count ≤ 9 → Spells (take count rest) (value_of (take count rest))
front_number rest count len some few =
    let long : length (take count rest) ≡ count = ap (λ k. length (take k rest)) len ∙ length-prefix_len is_ascii_digit rest ∙ sym len in
    let digits : list_all is_ascii_digit (take count rest) ≡ true = ap (λ k. list_all is_ascii_digit (take k rest)) len ∙ front_passes is_ascii_digit rest in
    record {
      filled = omega arith;
      digits = digits;
      value = refl;
      small = few_digits-lt count (value_of (take count rest)) few (omega (arith, value_of-lt (take count rest) digits, ap (λ k. 10 ^ k) long));
    }

no_digits : (count : ℕ) (rest : Bytes) → count ≡ prefix_len is_ascii_digit rest → count ≤ 9 → None ≡ number_at count rest → few_digits count rest ≡ None
unfolding number_at
no_digits count rest len few none =
    elim (cases_lt 0 count) [
      | inl some ↦
          let s = front_number rest count len some few in
          let long : nat_lt (length rest) count ≡ false = not_short (length rest) count (omega (arith, len, prefix_len-le-length is_ascii_digit rest)) in
          let found : number_at count rest ≡ Some (value_of (take count rest), drop count rest) = rw (long, number_of-from_spells (take count rest) (value_of (take count rest)) s) refl in
          absurd (none-some (value_of (take count rest), drop count rest) (none ∙ found))
      | inr zero' ↦ too_few count rest (omega arith)
    ]

pub no_digits-read : (text rest : Bytes) (count : ℕ) → Some rest ≡ past 46 text → count ≡ prefix_len is_ascii_digit rest → count ≤ 9 → None ≡ number_at count rest → None ≡ option_map fraction_read (fraction_at text)
no_digits-read text rest count is len few none = rw (behind_dot text rest count is len, no_digits count rest len few none) refl

number_front : (count : ℕ) (rest : Bytes) (x : ℕ × Bytes) → number_at count rest ≡ Some x → Spells (take count rest) x.0 × (x.1 ≡ drop count rest) × (0 < count)
unfolding number_at
number_front count rest x is = by_length (nat_lt (length rest) count) is
  where
    by_number : (r : Option ℕ) → result_ok (number_of (take count rest)) ≡ r → option_map (λ n. (n, drop count rest)) r ≡ Some x → Spells (take count rest) x.0 × (x.1 ≡ drop count rest) × (0 < count)
    by_number None e h = cc
    by_number (Some n) e h =
        let s = number_of-spells (take count rest) n e in
        let same : ◌≡◌ {A = ℕ × Bytes} (n, drop count rest) x = cc in
        let some : 0 < count = omega (arith, s.filled, length-take count rest) in
        subst (λ (y : ℕ × Bytes). Spells (take count rest) y.0 × (y.1 ≡ drop count rest) × (0 < count)) same (s, refl, some)

    by_length : (b : Bool) → (if b then None else option_map (λ n. (n, drop count rest)) (result_ok (number_of (take count rest)))) ≡ Some x → Spells (take count rest) x.0 × (x.1 ≡ drop count rest) × (0 < count)
    by_length true h = cc
    by_length false h = by_number _ refl h

pub fraction-read : (text rest : Bytes) (count : ℕ) (x : ℕ × Bytes) → Some rest ≡ past 46 text → count ≡ prefix_len is_ascii_digit rest → count ≤ 9 → Some x ≡ number_at count rest
    → Some (x.0 * 10 ^ (9 - count), x.1) ≡ option_map fraction_read (fraction_at text)
fraction-read text rest count x is len few found =
    let f = number_front count rest x (sym found) in
    let long : length (take count rest) ≡ count = ap (λ k. length (take k rest)) len ∙ length-prefix_len is_ascii_digit rest ∙ sym len in
    let nanos : fraction_nanos (take count rest) ≡ x.0 * 10 ^ (9 - count) = ap (λ l. value_of (take count rest) * 10 ^ (9 - l)) long ∙ ap (λ v. v * 10 ^ (9 - count)) f.0.value in
    let read : fraction_at text ≡ Some (take count rest, drop count rest) = behind_dot text rest count is len ∙ few_found count rest f.2 few in
    sym (ap (option_map fraction_read) read ∙ ap (λ n. Some (n, drop count rest)) nanos ∙ ap (λ r. Some (x.0 * 10 ^ (9 - count), r)) (sym f.1))

pub fraction-lt : (n count : ℕ) → n < 10 ^ count → count ≤ 9 → n * 10 ^ (9 - count) < 1_000_000_000
fraction-lt n count small few =
    let all : 9 - count + count ≡ 9 = omega arith in
    let product : 10 ^ (9 - count) * 10 ^ count ≡ 1_000_000_000 = sym (pow-add 10 (9 - count) count) ∙ ap (λ k. 10 ^ k) all in
    omega (arith, mul-add-lt n (10 ^ (9 - count)) 0 (10 ^ count) small (power (9 - count)), product)

-- ---- a time of day

is_shown : (h m s : ℕ) (fraction : Bool) → h < 24 → m < 60 → s < 60 → fraction ≡ true → IsTrue (nat_lt h 24 && nat_lt m 60 && nat_lt s 60 && fraction)
is_shown h m s fraction a b c f = grind (arith, nat_tests)

nanos_shown : (t midnight : Time) (h m s n : ℕ) (nanos : ℤ) → t.hour ≡ h → t.minute ≡ m → t.second ≡ s → t.subsec_nanosecond ≡ n → time_nanos midnight ≡ 0 → nanos ≡ pos (time_nanos t) -ℤ pos (time_nanos midnight)
    → nanos ≡ pos (((h * 60 + m) * 60 + s) * 1_000_000_000 + n)
nanos_shown t midnight h m s n nanos a b c d e f = omega (arith, signed_arith)

-- the time that has these digits is what they spell
pub clock-read : (text : Bytes) (h m s n : ℕ × Bytes) (time midnight : Time) (nanos : ℤ) → Some h ≡ number_at 2 text → Some m ≡ two_behind 58 h.1 → Some s ≡ two_behind 58 m.1 → Some n ≡ option_map fraction_read (fraction_at s.1)
    → h.0 < 100 → m.0 < 100 → s.0 < 100 → n.0 < 1_000_000_000 → IsHms (to_z w8 h.0) (to_z w8 m.0) (to_z w8 s.0) (to_z w32 n.0) time → time_nanos midnight ≡ 0 → nanos ≡ pos (time_nanos time) -ℤ pos (time_nanos midnight)
    → Some (nanos, n.1) ≡ option_map clock_read (clock_at text)
unfolding clock_at
clock-read text h m s n time midnight nanos eh em es en lh lm ls ln is start since =
    let hour : time.hour ≡ h.0 = pos_same _ _ (is.0 ∙ to_z_pos w8 h.0 (omega arith)) in
    let minute : time.minute ≡ m.0 = pos_same _ _ (is.1 ∙ to_z_pos w8 m.0 (omega arith)) in
    let second : time.second ≡ s.0 = pos_same _ _ (is.2 ∙ to_z_pos w8 s.0 (omega arith)) in
    let subsec : time.subsec_nanosecond ≡ n.0 = pos_same _ _ (is.3 ∙ to_z_pos w32 n.0 (omega arith)) in
    let f = map_some fraction_read (fraction_at s.1) n en in
    let fraction : n.0 ≡ fraction_nanos f.0.0 = ap (λ (x : ℕ × Bytes). x.0) f.2 in
    let rest : n.1 ≡ f.0.1 = ap (λ (x : ℕ × Bytes). x.1) f.2 in
    let made : Clock = record { hour = h.0; minute = m.0; second = s.0; fraction = f.0.0 } in
    let test : IsTrue (is_clock made) =
    is_shown h.0 m.0 s.0 (is_fraction f.0.0) (omega (arith, time.hour_in, hour)) (omega (arith, time.minute_in, minute)) (omega (arith, time.second_in, second)) (fraction_at-takes s.1 f.0 f.1).is in
    let shows : nanos ≡ pos (clock_nanos made) = nanos_shown time midnight h.0 m.0 s.0 (fraction_nanos f.0.0) nanos hour minute second (subsec ∙ fraction) start since in
    rw (← eh, ← em, ← es, f.1, test) (ap (λ (t : ℤ). Some (t, n.1)) shows ∙ ap (λ r. Some (pos (clock_nanos made), r)) rest)

-- ---- the distance to UTC

ends_alike : (hours minutes : ℕ) (rest : Bytes) → option_map shift (at_end (behind hours minutes) rest) ≡ option_map neg_ℤ (option_map shift (at_end (ahead hours minutes) rest))
ends_alike hours minutes [] = by_test (nat_lt hours 24 && nat_lt minutes 60)
  where
    by_test : (b : Bool) → option_map shift (if b then Some (behind hours minutes) else None) ≡ option_map neg_ℤ (option_map shift (if b then Some (ahead hours minutes) else None))
    by_test true = refl
    by_test false = refl
ends_alike hours minutes (byte ∷ rest) = refl

-- to the other side it is as far
sides_alike : (text : Bytes) → option_map shift (distance_at behind text) ≡ option_map neg_ℤ (option_map shift (distance_at ahead text))
unfolding distance_at
sides_alike text = by_hours (number_at 2 text)
  where
    by_minutes : (hours : ℕ) (r : Option (ℕ × Bytes)) → option_map shift (r >>= λ minutes. at_end (behind hours minutes.0) minutes.1) ≡ option_map neg_ℤ (option_map shift (r >>= λ minutes. at_end (ahead hours minutes.0) minutes.1))
    by_minutes hours None = refl
    by_minutes hours (Some minutes) = ends_alike hours minutes.0 minutes.1

    by_hours : (r : Option (ℕ × Bytes)) → option_map shift (r >>= λ hours. two_behind 58 hours.1 >>= λ minutes. at_end (behind hours.0 minutes.0) minutes.1)
        ≡ option_map neg_ℤ (option_map shift (r >>= λ hours. two_behind 58 hours.1 >>= λ minutes. at_end (ahead hours.0 minutes.0) minutes.1))
    by_hours None = refl
    by_hours (Some hours) = by_minutes hours.0 (two_behind 58 hours.1)

pub behind-read : (text rest : Bytes) (byte : ℕ) → text ≡ byte ∷ rest → byte ≡ 45 → option_map shift (zone_at text) ≡ option_map neg_ℤ (option_map shift (distance_at ahead rest))
unfolding zone_at
behind-read text rest byte is mark = ap (λ t. option_map shift (zone_at t)) (is ∙ ap (λ b. b ∷ rest) mark) ∙ sides_alike rest

pub negated : (z : ℤ) → IsSmall z → to_z w128 (of_z w128 (pos 0 -ℤ to_z w128 (of_z w128 z))) ≡ neg_ℤ z
negated z small =
    let less : pos 0 -ℤ z ≡ neg_ℤ z = omega (arith, signed_arith) in
    ap (λ y. casted (pos 0 -ℤ y)) (fits z small) ∙ ap casted less ∙ to_z-of_z w128 (neg_ℤ z) (omega (arith, signed_arith, small.low, small.high))

-- ---- a moment

as_far : (from to n : ℕ) → from + n ≡ to → moment_if (pos n) ≡ difference from to
as_far from to n is =
    let same : to - from ≡ n = omega arith in
    let low : nat_le from to ≡ true = grind (arith, nat_tests) in
    rw (same, low) refl

too_early : (from to : ℕ) → to < from → difference from to ≡ None
too_early from to early = grind (arith, nat_tests)

of_difference : (from to : ℕ) (z : ℤ) → z ≡ pos to -ℤ pos from → moment_if z ≡ difference from to
of_difference from to (pos n) is = as_far from to n (omega (arith, signed_arith))
of_difference from to (negsuc n) is = sym (too_early from to (omega (arith, signed_arith)))

-- what the clock shows, less how far it is ahead of UTC
abbrev since_first : ℕ → ℕ → ℕ → Zone → ℤ
since_first first days clock zone = pos days -ℤ pos first +ℤ pos clock -ℤ shift zone

-- ahead of UTC or behind it, the difference is the same
moment_alike : (first days clock : ℕ) (zone : Zone) → moment_if (since_first first days clock zone) ≡ difference (first + nanos_ahead zone) (days + clock + nanos_behind zone)
moment_alike first days clock utc = of_difference (first + 0) (days + clock + 0) (since_first first days clock utc) (omega (arith, signed_arith))
moment_alike first days clock (ahead hours minutes) =
    of_difference (first + distance hours minutes) (days + clock + 0) (since_first first days clock (ahead hours minutes)) (omega (arith, signed_arith))
moment_alike first days clock (behind hours minutes) =
    of_difference (first + 0) (days + clock + distance hours minutes) (since_first first days clock (behind hours minutes)) (omega (arith, signed_arith))

pub time-read : (text rest : Bytes) (d t : ℤ × Bytes) (z : ℤ) → Some d ≡ option_map day_read (day_at text) → Some rest ≡ past 84 d.1 → Some t ≡ option_map clock_read (clock_at rest) → Some z ≡ option_map shift (zone_at t.1)
    → moment_if (d.0 +ℤ t.0 -ℤ z) ≡ time_at text
unfolding time_at
time-read text rest d t z ed er et ez =
    let day = map_some day_read (day_at text) d ed in
    let clock = map_some clock_read (clock_at rest) t et in
    let zone = map_some shift (zone_at t.1) z ez in
    let days : d.0 ≡ pos (day_nanos day.0.0) -ℤ pos (day_nanos first_day) = ap (λ (x : ℤ × Bytes). x.0) day.2 in
    let behind_day : d.1 ≡ day.0.1 = ap (λ (x : ℤ × Bytes). x.1) day.2 in
    let nanos : t.0 ≡ pos (clock_nanos clock.0.0) = ap (λ (x : ℤ × Bytes). x.0) clock.2 in
    let behind_clock : t.1 ≡ clock.0.1 = ap (λ (x : ℤ × Bytes). x.1) clock.2 in
    let mark : past 84 day.0.1 ≡ Some rest = ap (past 84) (sym behind_day) ∙ sym er in
    let side : zone_at clock.0.1 ≡ Some zone.0 = ap zone_at (sym behind_clock) ∙ zone.1 in
    rw (day.1, mark, clock.1, side)
    (ap (λ (n : ℤ). moment_if (n +ℤ t.0 -ℤ z)) days ∙ ap (λ (n : ℤ). moment_if (pos (day_nanos day.0.0) -ℤ pos (day_nanos first_day) +ℤ n -ℤ z)) nanos
    ∙ ap (λ (n : ℤ). moment_if (pos (day_nanos day.0.0) -ℤ pos (day_nanos first_day) +ℤ pos (clock_nanos clock.0.0) -ℤ n)) zone.2
    ∙ moment_alike (day_nanos first_day) (day_nanos day.0.0) (clock_nanos clock.0.0) zone.0)
