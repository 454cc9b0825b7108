-- The text of a moment is UTF-8.
use Rattle.std.proofs.Common.{ℕ, zero, suc, ◌≡◌, ◌^◌, ◌<◌, Bool, true, false, ◌&&◌, [], ◌∷◌, ◌++◌, length, IsTrue, IsUtf8, nat_lt, nat_le, refl, sym, subst, arith}
use Rattle.std.specs.Char.{is_ascii_digit}
use Rattle.std.specs.List.{list_all}
use Rattle.std.proofs.lemmas.Str.{IsUtf8-from_ascii}
use Rattle.std.proofs.lemmas.Bool.Decides.{nat_tests}
use Rattle.std.proofs.Common.{slice_index}
use Rattle.js_base.specs.Bytes.{Bytes}
use Rattle.js_json.specs.Calendar.{Day, is_day}
use Rattle.js_json.specs.Times.{in_digits, Clock, is_clock, is_fraction, Zone, utc, ahead, behind, is_zone, day_text, fraction_text, clock_text, zone_text, written, SpellsTime}
use Rattle.js_json.proofs.Digits.{digits-in_digits}
use Rattle.js_json.proofs.TimeParts.{day_facts}
use Rattle.js_json.proofs.ClockParts.{clock_facts}

-- a byte of ASCII
abbrev is_plain : ℕ → Bool
is_plain byte = nat_lt byte 128

abbrev ArePlain : Bytes → Type 0
ArePlain text = list_all is_plain text ≡ true

both : (a b : Bool) → (a && b) ≡ true → (a ≡ true) × (b ≡ true)
both true b h = (refl, h)
both false b h = cc

joined : (xs ys : Bytes) → ArePlain xs → ArePlain ys → ArePlain (xs ++ ys)
joined [] ys one other = other
joined (x ∷ xs) ys one other =
    let parts = both (is_plain x) (list_all is_plain xs) one in
    rw (parts.0, joined xs ys parts.1 other) refl

digits_plain : (text : Bytes) → list_all is_ascii_digit text ≡ true → ArePlain text
digits_plain [] digits = refl
digits_plain (digit ∷ more) digits =
    let parts = both (is_ascii_digit digit) (list_all is_ascii_digit more) digits in
    let plain : is_plain digit ≡ true = grind (arith, nat_tests) in
    rw (plain, digits_plain more parts.1) refl

number_plain : (width n : ℕ) → n < 10 ^ width → ArePlain (in_digits width n)
number_plain width n small = digits_plain (in_digits width n) (digits-in_digits width n small)

plain_at : (text : Bytes) (i : ℕ) → ArePlain text → slice_index text i < 128
plain_at [] i plain = omega arith
plain_at (byte ∷ more) zero plain = let parts = both (is_plain byte) (list_all is_plain more) plain in grind (arith, nat_tests)
plain_at (byte ∷ more) (suc i) plain = plain_at more i (both (is_plain byte) (list_all is_plain more) plain).1

day_plain : (d : Day) → IsTrue (is_day d) → ArePlain (day_text d)
day_plain d is =
    let f = day_facts d is in
    joined (in_digits 4 d.year) (45 ∷ in_digits 2 d.month ++ 45 ∷ in_digits 2 d.day) (number_plain 4 d.year f.year)
    (joined (in_digits 2 d.month) (45 ∷ in_digits 2 d.day) (number_plain 2 d.month f.month) (number_plain 2 d.day f.day))

fraction_plain : (digits : Bytes) → IsTrue (is_fraction digits) → ArePlain (fraction_text digits)
fraction_plain [] is = refl
fraction_plain (digit ∷ more) is = digits_plain (digit ∷ more) (both (list_all is_ascii_digit (digit ∷ more)) (nat_le (length (digit ∷ more)) 9) is).0

clock_plain : (c : Clock) → IsTrue (is_clock c) → ArePlain (clock_text c)
clock_plain c is =
    let f = clock_facts c is in
    let hour : c.hour < 100 = omega (arith, f.hour) in
    let minute : c.minute < 100 = omega (arith, f.minute) in
    let second : c.second < 100 = omega (arith, f.second) in
    joined (in_digits 2 c.hour) (58 ∷ in_digits 2 c.minute ++ 58 ∷ in_digits 2 c.second ++ fraction_text c.fraction) (number_plain 2 c.hour hour)
    (joined (in_digits 2 c.minute) (58 ∷ in_digits 2 c.second ++ fraction_text c.fraction) (number_plain 2 c.minute minute)
    (joined (in_digits 2 c.second) (fraction_text c.fraction) (number_plain 2 c.second second) (fraction_plain c.fraction f.fraction)))

distance_plain : (hours minutes : ℕ) → IsTrue (nat_lt hours 24 && nat_lt minutes 60) → ArePlain (in_digits 2 hours ++ 58 ∷ in_digits 2 minutes)
distance_plain hours minutes is =
    let hour : hours < 100 = grind (arith, nat_tests) in
    let minute : minutes < 100 = grind (arith, nat_tests) in
    joined (in_digits 2 hours) (58 ∷ in_digits 2 minutes) (number_plain 2 hours hour) (number_plain 2 minutes minute)

zone_plain : (z : Zone) → IsTrue (is_zone z) → ArePlain (zone_text z)
zone_plain utc is = refl
zone_plain (ahead hours minutes) is = distance_plain hours minutes is
zone_plain (behind hours minutes) is = distance_plain hours minutes is

written_plain : (d : Day) (c : Clock) (z : Zone) → IsTrue (is_day d) → IsTrue (is_clock c) → IsTrue (is_zone z) → ArePlain (written d c z)
written_plain d c z day clock zone =
    joined (day_text d) (84 ∷ clock_text c ++ zone_text z) (day_plain d day) (joined (clock_text c) (zone_text z) (clock_plain c clock) (zone_plain z zone))

-- a text of a moment has bytes of ASCII alone
pub spelled_utf8 : (text : Bytes) (at : ℕ) → SpellsTime text at → IsUtf8 text
spelled_utf8 text at spells =
    let plain : ArePlain text = subst ArePlain (sym spells.spelled) (written_plain spells.date spells.clock spells.zone spells.is_date spells.is_time spells.is_distance) in
    IsUtf8-from_ascii text (λ i. plain_at text i plain)
