-- What a text of a time begins with: each part is read exactly if it is spelled.
use Rattle.std.proofs.Common.{ℕ, ◌≡◌, ◌^◌, ◌<◌, ◌≤◌, Bool, true, false, ◌&&◌, ◌==◌, IsTrue, [], ◌∷◌, ◌++◌, length, take, drop, Option, Some, None, option_map, Ok, refl, sym, ap, ◌∙◌, arith, if◌then◌else◌, nat_lt, nat_le, take-append-drop, length-take, subst, length-append}
use Rattle.std.proofs.Math.Nat.{pow-le-pow_right}
use Rattle.std.proofs.Math.Seq.{take-append_seam, drop-append_seam}
use Rattle.std.specs.Result.{result_ok}
use Rattle.std.proofs.lemmas.Bool.Decides.{nat_tests}
use Rattle.js_base.specs.Bytes.{Bytes}
use Rattle.js_base.specs.Decimal.{number_of}
use Rattle.js_json.specs.Calendar.{Day, is_day, days_of_month}
use Rattle.js_json.specs.Times.{in_digits, day_text}
use Rattle.js_json.specs.TimeReading.{◌>>=◌, number_at, past, two_behind, if_passed, day_at}
use Rattle.js_json.proofs.Digits.{digits-in_digits, length-in_digits, value_of-in_digits, value_of-lt, in_digits-value_of, Spells, number_of-spells, number_of-from_spells}

-- ---- one reading after the other

-- a step that was taken
pub bind_some : {A B : Type 0} (r : Option A) (next : A → Option B) (y : B) → (r >>= next) ≡ Some y → (x : A) × (r ≡ Some x) × (next x ≡ Some y)
bind_some None next y is = cc
bind_some (Some x) next y is = (x, refl, is)

pub both : (a b : Bool) → (a && b) ≡ true → (a ≡ true) × (b ≡ true)
both true b h = (refl, h)
both false b h = cc

-- what is given only if a test passes
pub chosen : {X : Type 0} (b : Bool) (r : Option X) (x : X) → (if b then r else None) ≡ Some x → (b ≡ true) × (r ≡ Some x)
chosen true r x is = (refl, is)
chosen false r x is = cc

pub passed : {X : Type 0} (test : X → Bool) (x : X) (rest : Bytes) (y : X × Bytes) → if_passed test x rest ≡ Some y → (test x ≡ true) × (y ≡ (x, rest))
passed test x rest y is = let parts = chosen (test x) (Some (x, rest)) y is in (parts.0, cc)

pub passes : {X : Type 0} (test : X → Bool) (x : X) (rest : Bytes) → test x ≡ true → if_passed test x rest ≡ Some (x, rest)
passes test x rest is = rw is refl

-- ---- a byte

pub past-takes : (mark : ℕ) (text rest : Bytes) → past mark text ≡ Some rest → text ≡ mark ∷ rest
unfolding past
past-takes mark [] rest is = cc
past-takes mark (byte ∷ more) rest is = let parts = chosen (byte == mark) (Some more) rest is in grind (arith, nat_tests)

-- ---- a number

-- the text begins with this number in so many digits
pub record Takes (width : ℕ) (text : Bytes) (x : ℕ × Bytes) : Type 0 where
  pub text_is : text ≡ in_digits width x.0 ++ x.1
  pub small : x.0 < 10 ^ width

in_front : (width n : ℕ) (text : Bytes) → Spells (take width text) n → width ≤ length text → Takes width text (n, drop width text)
in_front width n text s long =
    let len : length (take width text) ≡ width = omega (arith, length-take width text) in
    let digits : in_digits width n ≡ take width text = ap (λ k. in_digits k n) (sym len) ∙ ap (in_digits (length (take width text))) (sym s.value) ∙ in_digits-value_of (take width text) s.digits in
    record {
      text_is = sym (take-append-drop width text) ∙ ap (λ front. front ++ drop width text) (sym digits);
      small = omega (arith, value_of-lt (take width text) s.digits, s.value, ap (λ k. 10 ^ k) len);
    }

taken : (width : ℕ) (text : Bytes) (x : ℕ × Bytes) (r : Option ℕ) → result_ok (number_of (take width text)) ≡ r → width ≤ length text → option_map (λ n. (n, drop width text)) r ≡ Some x → Takes width text x
taken width text x None read long is = cc
taken width text x (Some n) read long is =
    let same : ◌≡◌ {A = ℕ × Bytes} (n, drop width text) x = cc in
    subst (λ y. Takes width text y) same (in_front width n text (number_of-spells (take width text) n read) long)

pub number_at-takes : (width : ℕ) (text : Bytes) (x : ℕ × Bytes) → number_at width text ≡ Some x → Takes width text x
unfolding number_at
number_at-takes width text x is = by_length (nat_lt (length text) width) refl is
  where
    by_length : (b : Bool) → nat_lt (length text) width ≡ b → (if b then None else option_map (λ n. (n, drop width text)) (result_ok (number_of (take width text)))) ≡ Some x → Takes width text x
    by_length true short is = cc
    by_length false long is = taken width text x _ refl (grind (arith, nat_tests)) is

pub not_short : (m n : ℕ) → n ≤ m → nat_lt m n ≡ false
not_short m n h = grind (arith, nat_tests)

-- nine digits are few
pub few_digits-lt : (width n : ℕ) → width ≤ 9 → n < 10 ^ width → n < 2 ^ 62
few_digits-lt width n short small = omega (arith, pow-le-pow_right {n = 10} (omega arith) {i = width} {j = 9} short)

pub number_at-again : (width n : ℕ) (rest : Bytes) → 0 < width → width ≤ 9 → n < 10 ^ width → number_at width (in_digits width n ++ rest) ≡ Some (n, rest)
unfolding number_at
number_at-again width n rest some short small =
    let digits = in_digits width n in
    let len : length digits ≡ width = length-in_digits width n in
    let front : take width (digits ++ rest) ≡ digits = ap (λ k. take k (digits ++ rest)) (sym len) ∙ take-append_seam digits rest in
    let back : drop width (digits ++ rest) ≡ rest = ap (λ k. drop k (digits ++ rest)) (sym len) ∙ drop-append_seam digits rest in
    let read : number_of digits ≡ Ok n = number_of-from_spells digits n (record { filled = omega arith; digits = digits-in_digits width n small; value = value_of-in_digits width n small; small = few_digits-lt width n short small }) in
    let long : nat_lt (length (digits ++ rest)) width ≡ false = not_short (length (digits ++ rest)) width (omega (arith, length-append digits rest)) in
    rw (long, front, back, read) refl

-- ---- two digits after a byte

pub two_behind-takes : (mark : ℕ) (text : Bytes) (x : ℕ × Bytes) → two_behind mark text ≡ Some x → (text ≡ mark ∷ in_digits 2 x.0 ++ x.1) × (x.0 < 100)
unfolding two_behind
two_behind-takes mark text x is =
    let a = bind_some (past mark text) (number_at 2) x is in
    let t = number_at-takes 2 a.0 x a.2 in
    (past-takes mark text a.0 a.1 ∙ ap (λ rest. mark ∷ rest) t.text_is, t.small)

pub two_behind-again : (mark n : ℕ) (rest : Bytes) → n < 100 → two_behind mark (mark ∷ in_digits 2 n ++ rest) ≡ Some (n, rest)
unfolding two_behind past
two_behind-again mark n rest small =
    let found : (mark == mark) ≡ true = grind (arith, nat_tests) in
    rw found (number_at-again 2 n rest (omega arith) (omega arith) small)

-- ---- a day

pub record TakesDay (text : Bytes) (x : Day × Bytes) : Type 0 where
  pub text_is : text ≡ day_text x.0 ++ x.1
  pub is : IsTrue (is_day x.0)

pub day_at-takes : (text : Bytes) (x : Day × Bytes) → day_at text ≡ Some x → TakesDay text x
unfolding day_at
day_at-takes text x is =
    let a = bind_some (number_at 4 text) (λ year. two_behind 45 year.1 >>= λ month. two_behind 45 month.1 >>= λ day. if_passed is_day (record { year = year.0; month = month.0; day = day.0 }) day.1) x is in
    let b = bind_some (two_behind 45 a.0.1) (λ month. two_behind 45 month.1 >>= λ day. if_passed is_day (record { year = a.0.0; month = month.0; day = day.0 }) day.1) x a.2 in
    let c = bind_some (two_behind 45 b.0.1) (λ day. if_passed is_day (record { year = a.0.0; month = b.0.0; day = day.0 }) day.1) x b.2 in
    let made : Day = record { year = a.0.0; month = b.0.0; day = c.0.0 } in
    let done = passed is_day made c.0.1 x c.2 in
    let whole : text ≡ day_text made ++ c.0.1 =
    (number_at-takes 4 text a.0 a.1).text_is ∙ ap (λ rest. in_digits 4 a.0.0 ++ rest) ((two_behind-takes 45 a.0.1 b.0 b.1).0 ∙ ap (λ rest. 45 ∷ in_digits 2 b.0.0 ++ rest) (two_behind-takes 45 b.0.1 c.0 c.1).0) in
    let from : TakesDay text (made, c.0.1) = record { text_is = whole; is = done.0 } in
    subst (λ (y : Day × Bytes). TakesDay text y) (sym done.1) from

-- what a day of the calendar is
pub record DayFacts (d : Day) : Type 0 where
  pub year : d.year < 10000
  pub from_january : 1 ≤ d.month
  pub month : d.month < 100
  pub to_december : d.month ≤ 12
  pub from_first : 1 ≤ d.day
  pub within : d.day ≤ days_of_month d.year d.month
  pub day : d.day < 100

longest : (year month : ℕ) → days_of_month year month ≤ 31
longest year month = grind (arith, nat_tests)

day_within : (most : ℕ) (d : Day) → IsTrue (nat_lt d.year 10000 && nat_le 1 d.month && nat_le d.month 12 && nat_le 1 d.day && nat_le d.day most) → d.day ≤ most
day_within most d is = grind (arith, nat_tests)

pub day_facts : (d : Day) → IsTrue (is_day d) → DayFacts d
day_facts d is =
    let long = longest d.year d.month in
    let year : d.year < 10000 = grind (arith, nat_tests) in
    let low : 1 ≤ d.month = grind (arith, nat_tests) in
    let high : d.month ≤ 12 = grind (arith, nat_tests) in
    let first : 1 ≤ d.day = grind (arith, nat_tests) in
    let last : d.day ≤ days_of_month d.year d.month = day_within (days_of_month d.year d.month) d is in
    record { year = year; from_january = low; month = omega arith; to_december = high; from_first = first; within = last; day = omega arith }

pub day_at-again : (d : Day) (rest : Bytes) → IsTrue (is_day d) → day_at (day_text d ++ rest) ≡ Some (d, rest)
unfolding day_at
day_at-again d rest is =
    let f = day_facts d is in
    rw (
      number_at-again 4 d.year (45 ∷ in_digits 2 d.month ++ 45 ∷ in_digits 2 d.day ++ rest) (omega arith) (omega arith) f.year,
      two_behind-again 45 d.month (45 ∷ in_digits 2 d.day ++ rest) f.month,
      two_behind-again 45 d.day rest f.day,
      passes is_day d rest is,
    ) refl
