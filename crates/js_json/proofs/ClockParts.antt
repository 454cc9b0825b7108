-- The time of day and the distance to UTC in a text of a time: each is read exactly if it is spelled.
use Rattle.std.proofs.Common.{ℕ, suc, ◌≡◌, ◌+◌, ◌<◌, ◌≤◌, Bool, true, false, ◌&&◌, ◌==◌, IsTrue, [], ◌∷◌, ◌++◌, length, take, drop, Option, Some, None, refl, sym, ap, ◌∙◌, arith, cond, if◌then◌else◌, nat_lt, nat_le, take-append-drop, subst}
use Rattle.std.specs.Char.{is_ascii_digit}
use Rattle.std.specs.List.{list_all, prefix_len}
use Rattle.std.proofs.lemmas.Bool.Decides.{nat_tests}
use Rattle.std.proofs.lemmas.List.Folds.{length-prefix_len}
use Rattle.std.proofs.Math.Seq.{take-append_seam, drop-append_seam}
use Rattle.js_base.specs.Bytes.{Bytes}
use Rattle.js_json.specs.Times.{in_digits, Clock, is_clock, is_fraction, Zone, utc, ahead, behind, is_zone, fraction_text, clock_text, zone_text}
use Rattle.js_json.specs.TimeReading.{◌>>=◌, number_at, two_behind, if_passed, few_digits, fraction_at, clock_at, at_end, distance_at, zone_at}
use Rattle.js_json.proofs.TimeParts.{bind_some, both, chosen, passed, passes, number_at-takes, number_at-again, two_behind-takes, two_behind-again}

-- ---- a fraction

one_more : (n : ℕ) → 1 + n ≡ suc n
one_more n = omega arith

-- the first digits are digits
pub front_passes : (p : ℕ → Bool) (xs : Bytes) → list_all p (take (prefix_len p xs) xs) ≡ true
front_passes p [] = refl
front_passes p (x ∷ xs) = by_first (p x) refl (front_passes p xs)
  where
    by_first : (b : Bool) → p x ≡ b → list_all p (take (prefix_len p xs) xs) ≡ true → list_all p (take (cond b (1 + prefix_len p xs) 0) (x ∷ xs)) ≡ true
    by_first true is rest = rw (one_more (prefix_len p xs), is) rest
    by_first false is rest = refl

-- and end at a byte that is none
front_len : (p : ℕ → Bool) (xs : Bytes) (byte : ℕ) (rest : Bytes) → list_all p xs ≡ true → p byte ≡ false → prefix_len p (xs ++ byte ∷ rest) ≡ length xs
front_len p [] byte rest all other = rw other refl
front_len p (x ∷ xs) byte rest all other =
    let parts = both (p x) (list_all p xs) all in
    rw (parts.0, one_more) (ap suc (front_len p xs byte rest parts.1 other))

with_dot : (digits : Bytes) → 0 < length digits → fraction_text digits ≡ 46 ∷ digits
with_dot [] some = absurd (omega arith)
with_dot (digit ∷ more) some = refl

-- the text begins with these digits after a dot, or without them
pub record TakesFraction (text : Bytes) (x : Bytes × Bytes) : Type 0 where
  pub text_is : text ≡ fraction_text x.0 ++ x.1
  pub is : IsTrue (is_fraction x.0)

no_dot : (text : Bytes) (x : Bytes × Bytes) → ◌≡◌ {A = Option (Bytes × Bytes)} (Some ([], text)) (Some x) → TakesFraction text x
no_dot text x is =
    let same : ◌≡◌ {A = Bytes × Bytes} ([], text) x = cc in
    subst (λ (y : Bytes × Bytes). TakesFraction text y) same (record { text_is = refl; is = refl })

few-takes : (n : ℕ) (rest : Bytes) (x : Bytes × Bytes) → prefix_len is_ascii_digit rest ≡ n → few_digits n rest ≡ Some x → TakesFraction (46 ∷ rest) x
few-takes n rest x len is =
    let parts = chosen (nat_le 1 n && nat_le n 9) (Some (take n rest, drop n rest)) x is in
    let some : 1 ≤ n = grind (arith, nat_tests) in
    let few : n ≤ 9 = grind (arith, nat_tests) in
    let long : length (take n rest) ≡ n = ap (λ k. length (take k rest)) (sym len) ∙ length-prefix_len is_ascii_digit rest ∙ len in
    let digits : list_all is_ascii_digit (take n rest) ≡ true = ap (λ k. list_all is_ascii_digit (take k rest)) (sym len) ∙ front_passes is_ascii_digit rest in
    let whole : 46 ∷ rest ≡ fraction_text (take n rest) ++ drop n rest =
    ap (λ text. 46 ∷ text) (sym (take-append-drop n rest)) ∙ ap (λ front. front ++ drop n rest) (sym (with_dot (take n rest) (omega arith))) in
    let short : nat_le (length (take n rest)) 9 ≡ true = grind (arith, nat_tests) in
    let from : TakesFraction (46 ∷ rest) (take n rest, drop n rest) = record { text_is = whole; is = rw (digits, short) refl } in
    let same : ◌≡◌ {A = Bytes × Bytes} (take n rest, drop n rest) x = cc in
    subst (λ (y : Bytes × Bytes). TakesFraction (46 ∷ rest) y) same from

pub fraction_at-takes : (text : Bytes) (x : Bytes × Bytes) → fraction_at text ≡ Some x → TakesFraction text x
unfolding fraction_at
fraction_at-takes [] x is = no_dot [] x is
fraction_at-takes (byte ∷ rest) x is = by_dot (byte == 46) refl is
  where
    by_dot : (b : Bool) → (byte == 46) ≡ b → (if b then few_digits (prefix_len is_ascii_digit rest) rest else Some ([], byte ∷ rest)) ≡ Some x → TakesFraction (byte ∷ rest) x
    by_dot true dot is =
        let is_dot : 46 ≡ byte = grind (arith, nat_tests) in
        subst (λ (mark : ℕ). TakesFraction (mark ∷ rest) x) is_dot (few-takes _ rest x refl is)
    by_dot false other is = no_dot (byte ∷ rest) x is

-- a byte that ends a fraction
pub record Ends (byte : ℕ) : Type 0 where
  pub no_digit : is_ascii_digit byte ≡ false
  pub no_dot : (byte == 46) ≡ false

pub fraction_at-again : (digits : Bytes) (byte : ℕ) (rest : Bytes) → IsTrue (is_fraction digits) → Ends byte → fraction_at (fraction_text digits ++ byte ∷ rest) ≡ Some (digits, byte ∷ rest)
unfolding fraction_at
fraction_at-again [] byte rest is ends = rw ends.no_dot refl
fraction_at-again (digit ∷ more) byte rest is ends =
    let digits : Bytes = digit ∷ more in
    let parts = both (list_all is_ascii_digit (digit ∷ more)) (nat_le (length (digit ∷ more)) 9) is in
    let len = front_len is_ascii_digit (digit ∷ more) byte rest parts.0 ends.no_digit in
    let some : nat_le 1 (length (digit ∷ more)) ≡ true = grind (arith, nat_tests) in
    ap (λ n. few_digits n ((digit ∷ more) ++ byte ∷ rest)) len
    ∙ rw (some, parts.1, take-append_seam (digit ∷ more) (byte ∷ rest), drop-append_seam (digit ∷ more) (byte ∷ rest)) refl

-- ---- a time of day

-- the text begins with this time of day
pub record TakesClock (text : Bytes) (x : Clock × Bytes) : Type 0 where
  pub text_is : text ≡ clock_text x.0 ++ x.1
  pub is : IsTrue (is_clock x.0)

pub clock_at-takes : (text : Bytes) (x : Clock × Bytes) → clock_at text ≡ Some x → TakesClock text x
unfolding clock_at
clock_at-takes text x is =
    let a = bind_some (number_at 2 text) (λ hour. two_behind 58 hour.1 >>= λ minute. two_behind 58 minute.1 >>= λ second. fraction_at second.1 >>= λ fraction. if_passed is_clock (record { hour = hour.0; minute = minute.0; second = second.0; fraction = fraction.0 }) fraction.1) x is in
    let b = bind_some (two_behind 58 a.0.1) (λ minute. two_behind 58 minute.1 >>= λ second. fraction_at second.1 >>= λ fraction. if_passed is_clock (record { hour = a.0.0; minute = minute.0; second = second.0; fraction = fraction.0 }) fraction.1) x a.2 in
    let c = bind_some (two_behind 58 b.0.1) (λ second. fraction_at second.1 >>= λ fraction. if_passed is_clock (record { hour = a.0.0; minute = b.0.0; second = second.0; fraction = fraction.0 }) fraction.1) x b.2 in
    let d = bind_some (fraction_at c.0.1) (λ fraction. if_passed is_clock (record { hour = a.0.0; minute = b.0.0; second = c.0.0; fraction = fraction.0 }) fraction.1) x c.2 in
    let made : Clock = record { hour = a.0.0; minute = b.0.0; second = c.0.0; fraction = d.0.0 } in
    let done = passed is_clock made d.0.1 x d.2 in
    let whole : text ≡ clock_text made ++ d.0.1 =
    (number_at-takes 2 text a.0 a.1).text_is ∙ ap (λ rest. in_digits 2 a.0.0 ++ rest) ((two_behind-takes 58 a.0.1 b.0 b.1).0
    ∙ ap (λ rest. 58 ∷ in_digits 2 b.0.0 ++ rest) ((two_behind-takes 58 b.0.1 c.0 c.1).0 ∙ ap (λ rest. 58 ∷ in_digits 2 c.0.0 ++ rest) (fraction_at-takes c.0.1 d.0 d.1).text_is)) in
    let from : TakesClock text (made, d.0.1) = record { text_is = whole; is = done.0 } in
    subst (λ (y : Clock × Bytes). TakesClock text y) (sym done.1) from

-- what a time of day is
pub record ClockFacts (c : Clock) : Type 0 where
  pub hour : c.hour < 24
  pub minute : c.minute < 60
  pub second : c.second < 60
  pub fraction : IsTrue (is_fraction c.fraction)

clock_parts : (c : Clock) (fraction : Bool) → IsTrue (nat_lt c.hour 24 && nat_lt c.minute 60 && nat_lt c.second 60 && fraction) → (c.hour < 24) × (c.minute < 60) × (c.second < 60) × (fraction ≡ true)
clock_parts c fraction is =
    let hour : c.hour < 24 = grind (arith, nat_tests) in
    let minute : c.minute < 60 = grind (arith, nat_tests) in
    let second : c.second < 60 = grind (arith, nat_tests) in
    (hour, minute, second, (both (nat_lt c.hour 24 && nat_lt c.minute 60 && nat_lt c.second 60) fraction is).1)

pub clock_facts : (c : Clock) → IsTrue (is_clock c) → ClockFacts c
clock_facts c is =
    let parts = clock_parts c (is_fraction c.fraction) is in
    record { hour = parts.0; minute = parts.1; second = parts.2; fraction = parts.3 }

pub clock_at-again : (c : Clock) (byte : ℕ) (rest : Bytes) → IsTrue (is_clock c) → Ends byte → clock_at (clock_text c ++ byte ∷ rest) ≡ Some (c, byte ∷ rest)
unfolding clock_at
clock_at-again c byte rest is ends =
    let f = clock_facts c is in
    let behind_second = fraction_text c.fraction ++ byte ∷ rest in
    rw (
      number_at-again 2 c.hour (58 ∷ in_digits 2 c.minute ++ 58 ∷ in_digits 2 c.second ++ behind_second) (omega arith) (omega arith) (omega (arith, f.hour)),
      two_behind-again 58 c.minute (58 ∷ in_digits 2 c.second ++ behind_second) (omega (arith, f.minute)),
      two_behind-again 58 c.second behind_second (omega (arith, f.second)),
      fraction_at-again c.fraction byte rest f.fraction ends,
      passes is_clock c (byte ∷ rest) is,
    ) refl

-- ---- the distance to UTC

ended : (zone : Zone) (rest : Bytes) (found : Zone) → at_end zone rest ≡ Some found → (rest ≡ []) × (found ≡ zone) × IsTrue (is_zone zone)
ended zone [] found is = let parts = chosen (is_zone zone) (Some zone) found is in (refl, cc, parts.0)
ended zone (byte ∷ rest) found is = cc

-- hours and minutes to this side
pub record IsDistance (side : ℕ → ℕ → Zone) (text : Bytes) (zone : Zone) : Type 0 where
  pub hours : ℕ
  pub minutes : ℕ
  pub zone_is : zone ≡ side hours minutes
  pub text_is : text ≡ in_digits 2 hours ++ 58 ∷ in_digits 2 minutes
  pub is : IsTrue (is_zone (side hours minutes))

distance_at-takes : (side : ℕ → ℕ → Zone) (text : Bytes) (zone : Zone) → distance_at side text ≡ Some zone → IsDistance side text zone
unfolding distance_at
distance_at-takes side text zone is =
    let a = bind_some (number_at 2 text) (λ hours. two_behind 58 hours.1 >>= λ minutes. at_end (side hours.0 minutes.0) minutes.1) zone is in
    let b = bind_some (two_behind 58 a.0.1) (λ minutes. at_end (side a.0.0 minutes.0) minutes.1) zone a.2 in
    let e = ended (side a.0.0 b.0.0) b.0.1 zone b.2 in
    record {
      hours = a.0.0;
      minutes = b.0.0;
      zone_is = e.1;
      text_is = (number_at-takes 2 text a.0 a.1).text_is ∙ ap (λ rest. in_digits 2 a.0.0 ++ rest) ((two_behind-takes 58 a.0.1 b.0 b.1).0 ∙ ap (λ rest. 58 ∷ in_digits 2 b.0.0 ++ rest) e.0);
      is = e.2;
    }

distance_at-again : (side : ℕ → ℕ → Zone) (hours minutes : ℕ) → hours < 24 → minutes < 60 → IsTrue (is_zone (side hours minutes)) → distance_at side (in_digits 2 hours ++ 58 ∷ in_digits 2 minutes) ≡ Some (side hours minutes)
unfolding distance_at
distance_at-again side hours minutes h m is =
    rw (number_at-again 2 hours (58 ∷ in_digits 2 minutes ++ []) (omega arith) (omega arith) (omega arith), two_behind-again 58 minutes [] (omega arith), is) refl

-- the text is this distance
pub record TakesZone (text : Bytes) (zone : Zone) : Type 0 where
  pub text_is : text ≡ zone_text zone
  pub is : IsTrue (is_zone zone)

from_ahead : (rest : Bytes) (zone : Zone) → IsDistance ahead rest zone → TakesZone (43 ∷ rest) zone
from_ahead rest zone d =
    subst (λ (z : Zone). TakesZone (43 ∷ rest) z) (sym d.zone_is) (record { text_is = ap (λ text. 43 ∷ text) d.text_is; is = d.is })

from_behind : (rest : Bytes) (zone : Zone) → IsDistance behind rest zone → TakesZone (45 ∷ rest) zone
from_behind rest zone d =
    subst (λ (z : Zone). TakesZone (45 ∷ rest) z) (sym d.zone_is) (record { text_is = ap (λ text. 45 ∷ text) d.text_is; is = d.is })

from_utc : (rest : Bytes) (zone : Zone) → at_end utc rest ≡ Some zone → TakesZone (90 ∷ rest) zone
from_utc rest zone is =
    let e = ended utc rest zone is in
    subst (λ (z : Zone). TakesZone (90 ∷ rest) z) (sym e.1) (record { text_is = ap (λ text. 90 ∷ text) e.0; is = e.2 })

same_byte : (byte mark : ℕ) → (byte == mark) ≡ true → mark ≡ byte
same_byte byte mark is = grind (arith, nat_tests)

pub zone_at-takes : (text : Bytes) (zone : Zone) → zone_at text ≡ Some zone → TakesZone text zone
unfolding zone_at
zone_at-takes [] zone is = cc
zone_at-takes (byte ∷ rest) zone is = by_mark (byte == 90) (byte == 43) (byte == 45) refl refl refl is
  where
    by_mark : (u a b : Bool) → (byte == 90) ≡ u → (byte == 43) ≡ a → (byte == 45) ≡ b
        → (if u then at_end utc rest else if a then distance_at ahead rest else if b then distance_at behind rest else None) ≡ Some zone → TakesZone (byte ∷ rest) zone
    by_mark true a b eu ea eb e = subst (λ (mark : ℕ). TakesZone (mark ∷ rest) zone) (same_byte byte 90 eu) (from_utc rest zone e)
    by_mark false true b eu ea eb e = subst (λ (mark : ℕ). TakesZone (mark ∷ rest) zone) (same_byte byte 43 ea) (from_ahead rest zone (distance_at-takes ahead rest zone e))
    by_mark false false true eu ea eb e = subst (λ (mark : ℕ). TakesZone (mark ∷ rest) zone) (same_byte byte 45 eb) (from_behind rest zone (distance_at-takes behind rest zone e))
    by_mark false false false eu ea eb e = cc

in_range : (hours minutes : ℕ) → IsTrue (nat_lt hours 24 && nat_lt minutes 60) → (hours < 24) × (minutes < 60)
in_range hours minutes is = (grind (arith, nat_tests), grind (arith, nat_tests))

pub zone_at-again : (zone : Zone) → IsTrue (is_zone zone) → zone_at (zone_text zone) ≡ Some zone
unfolding zone_at
zone_at-again utc is = refl
zone_at-again (ahead hours minutes) is = let r = in_range hours minutes is in distance_at-again ahead hours minutes r.0 r.1 is
zone_at-again (behind hours minutes) is = let r = in_range hours minutes is in distance_at-again behind hours minutes r.0 r.1 is

-- it begins with a byte that ends a fraction
pub record Begins (text : Bytes) : Type 0 where
  pub byte : ℕ
  pub rest : Bytes
  pub text_is : text ≡ byte ∷ rest
  pub ends : Ends byte

pub zone_begins : (zone : Zone) → Begins (zone_text zone)
zone_begins utc = record { byte = 90; rest = []; text_is = refl; ends = record { no_digit = refl; no_dot = refl } }
zone_begins (ahead hours minutes) =
    record { byte = 43; rest = in_digits 2 hours ++ 58 ∷ in_digits 2 minutes; text_is = refl; ends = record { no_digit = refl; no_dot = refl } }
zone_begins (behind hours minutes) =
    record { byte = 45; rest = in_digits 2 hours ++ 58 ∷ in_digits 2 minutes; text_is = refl; ends = record { no_digit = refl; no_dot = refl } }
