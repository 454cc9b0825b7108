-- A text of a time is read exactly if it is spelled.
use Rattle.std.proofs.Common.{ℕ, ◌≡◌, ◌+◌, ◌-◌, ◌^◌, ◌<◌, ◌≤◌, true, ◌&&◌, IsTrue, ◌∷◌, ◌++◌, Some, refl, sym, ap, ◌∙◌, arith, nat_lt, nat_le}
use Rattle.std.proofs.lemmas.Bool.Decides.{nat_tests}
use Rattle.js_base.specs.Bytes.{Bytes}
use Rattle.js_json.specs.Calendar.{Day, is_day, first_day}
use Rattle.js_json.specs.Times.{Clock, is_clock, Zone, is_zone, day_text, clock_text, zone_text, written, day_nanos, clock_nanos, nanos_ahead, nanos_behind, Shows, SpellsTime}
use Rattle.js_json.specs.TimeReading.{◌>>=◌, past, day_at, clock_at, zone_at, difference, moment_of, time_at}
use Rattle.js_json.specs.Laws.{LawTime}
use Rattle.js_json.proofs.TimeParts.{bind_some, chosen, past-takes, day_at-takes, day_at-again}
use Rattle.js_json.proofs.ClockParts.{clock_at-takes, clock_at-again, zone_at-takes, zone_at-again, Begins, zone_begins}

-- from one number to another it is so far, and less than 2^62
pub difference-is : (from to at : ℕ) → difference from to ≡ Some at → (from + at ≡ to) × (at < 2 ^ 62)
difference-is from to at is =
    let parts = chosen (nat_le from to && nat_lt (to - from) (2 ^ 62)) (Some (to - from)) at is in
    let low : from ≤ to = grind (arith, nat_tests) in
    let high : to - from < 2 ^ 62 = grind (arith, nat_tests) in
    let same : to - from ≡ at = cc in
    (omega arith, omega arith)

pub difference-again : (from to at : ℕ) → from + at ≡ to → at < 2 ^ 62 → difference from to ≡ Some at
difference-again from to at e small =
    let same : to - from ≡ at = omega arith in
    let low : nat_le from to ≡ true = grind (arith, nat_tests) in
    let high : nat_lt at (2 ^ 62) ≡ true = grind (arith, nat_tests) in
    rw (same, low, high) refl

read_is_spelled : (text : Bytes) (at : ℕ) → time_at text ≡ Some at → SpellsTime text at
unfolding time_at
read_is_spelled text at is =
    let a = bind_some (day_at text) (λ day. past 84 day.1 >>= λ rest. clock_at rest >>= λ clock. zone_at clock.1 >>= λ zone. moment_of day.0 clock.0 zone) at is in
    let b = bind_some (past 84 a.0.1) (λ rest. clock_at rest >>= λ clock. zone_at clock.1 >>= λ zone. moment_of a.0.0 clock.0 zone) at a.2 in
    let c = bind_some (clock_at b.0) (λ clock. zone_at clock.1 >>= λ zone. moment_of a.0.0 clock.0 zone) at b.2 in
    let d = bind_some (zone_at c.0.1) (λ zone. moment_of a.0.0 c.0.0 zone) at c.2 in
    let date = day_at-takes text a.0 a.1 in
    let clock = clock_at-takes b.0 c.0 c.1 in
    let zone = zone_at-takes c.0.1 d.0 d.1 in
    let moment = difference-is (day_nanos first_day + nanos_ahead d.0) (day_nanos a.0.0 + clock_nanos c.0.0 + nanos_behind d.0) at d.2 in
    record {
      date = a.0.0;
      clock = c.0.0;
      zone = d.0;
      is_date = date.is;
      is_time = clock.is;
      is_distance = zone.is;
      spelled = date.text_is ∙ ap (λ rest. day_text a.0.0 ++ rest) (past-takes 84 a.0.1 b.0 b.1 ∙ ap (λ rest. 84 ∷ rest) (clock.text_is ∙ ap (λ rest. clock_text c.0.0 ++ rest) zone.text_is));
      shows = omega (arith, moment.0);
      small = moment.1;
    }

read_again : (date : Day) (clock : Clock) (zone : Zone) (b : Begins (zone_text zone)) (at : ℕ) → IsTrue (is_day date) → IsTrue (is_clock clock) → IsTrue (is_zone zone) → Shows at date clock zone → at < 2 ^ 62
    → time_at (written date clock zone) ≡ Some at
unfolding time_at past
read_again date clock zone b at is_date is_time is_distance shows small =
    let from_clock : clock_at (clock_text clock ++ zone_text zone) ≡ Some (clock, zone_text zone) =
    ap (λ rest. clock_at (clock_text clock ++ rest)) b.text_is ∙ clock_at-again clock b.byte b.rest is_time b.ends ∙ ap (λ rest. Some (clock, rest)) (sym b.text_is) in
    rw (day_at-again date (84 ∷ clock_text clock ++ zone_text zone) is_date, from_clock, zone_at-again zone is_distance)
    (difference-again (day_nanos first_day + nanos_ahead zone) (day_nanos date + clock_nanos clock + nanos_behind zone) at (omega (arith, shows)) small)

spelled_is_read : (text : Bytes) (at : ℕ) → SpellsTime text at → time_at text ≡ Some at
spelled_is_read text at s =
    ap time_at s.spelled ∙ read_again s.date s.clock s.zone (zone_begins s.zone) at s.is_date s.is_time s.is_distance s.shows s.small

pub time_read : LawTime
time_read text at = (read_is_spelled text at, spelled_is_read text at)
