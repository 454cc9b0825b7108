-- Worked rows of the definitions: each computes.
use Rattle.std.proofs.Common.{◌≡◌, ℕ, ℤ, pos, neg_ℤ, ◌-◌, ◌^◌, codes, Option, Some, None, Result, Ok, Err, refl, ◌++◌}
use Rattle.std.specs.Str.{is_utf8, chars}
use Rattle.serde_json.specs.Data.{Members, no_members}
use Rattle.serde_json.proofs.OnLiterals.{serde_json_on_literals}
use Rattle.js_base.specs.Bytes.{Bytes}
use Rattle.js_json.specs.Calendar.{days_before, days_of_months, days_to, first_day, year_after, month_after, day_after}
use Rattle.js_json.specs.Times.{time_text}
use Rattle.js_json.specs.TimeReading.{number_at, past, two_behind, day_at, fraction_at, clock_at, distance_at, zone_at, time_at}
use Rattle.js_json.specs.Objects.{object_of}
use Rattle.js_json.specs.Fields.{number_in}
use Rattle.js_json.specs.declared.fault.JsonFault.{JsonFault}
use Rattle.js_json.specs.declared.fault.JsonFault.TheVariants.{NotJson, NotObject, BadField}

-- ---- the calendar

epoch : days_to first_day ≡ 719528
unfolding days_before days_of_months
epoch = refl

leap_day : day_after 11016 ≡ record { year = 2000; month = 2; day = 29 }
unfolding year_after month_after
leap_day = refl

-- ---- times

abbrev T : ℕ
T = 1_700_000_000_000_000_000

written : time_text T ≡ codes "2023-11-14T22:13:20.000000000Z"
unfolding time_text year_after month_after
written = refl

written_last : time_text (2 ^ 62 - 1) ≡ codes "2116-02-20T23:53:38.427387903Z"
unfolding time_text year_after month_after
written_last = refl

read : time_at (codes "2023-11-14T22:13:20Z") ≡ Some T
unfolding time_at number_at past two_behind day_at fraction_at clock_at distance_at zone_at days_before days_of_months
read = refl

read_ahead : time_at (codes "2023-11-14T23:43:20.000+01:30") ≡ Some T
unfolding time_at number_at past two_behind day_at fraction_at clock_at distance_at zone_at days_before days_of_months
read_ahead = refl

read_behind : time_at (codes "1969-12-31T23:00:01.5-01:00") ≡ Some 1_500_000_000
unfolding time_at number_at past two_behind day_at fraction_at clock_at distance_at zone_at days_before days_of_months
read_behind = refl

no_leap_day : time_at (codes "2100-02-29T00:00:00Z") ≡ None
unfolding time_at number_at past two_behind day_at fraction_at clock_at distance_at zone_at days_before days_of_months
no_leap_day = refl

too_late : time_at (codes "2116-02-20T23:53:38.427387904Z") ≡ None
unfolding time_at number_at past two_behind day_at fraction_at clock_at distance_at zone_at days_before days_of_months
too_late = refl

too_early : time_at (codes "1969-12-31T23:59:59Z") ≡ None
unfolding time_at number_at past two_behind day_at fraction_at clock_at distance_at zone_at days_before days_of_months
too_early = refl

-- ---- fields

abbrev number_of_f : Bytes → Result (Option ℤ) JsonFault
number_of_f text = number_in (codes "f") (members_of (object_of (codes "{\"f\":" ++ text ++ codes "}")))
  where
    members_of : Result Members JsonFault → Members
    members_of (Ok members) = members
    members_of (Err _) = no_members

last_counts : number_of_f (codes "1,\"f\":2") ≡ Ok (Some (pos 2))
unfolding object_of number_in serde_json_on_literals is_utf8 chars
last_counts = refl

null_is_absent : number_of_f (codes "null") ≡ Ok None
unfolding object_of number_in serde_json_on_literals is_utf8 chars
null_is_absent = refl

least : number_of_f (codes "-9223372036854775808") ≡ Ok (Some (neg_ℤ (pos (2 ^ 63))))
unfolding object_of number_in serde_json_on_literals is_utf8 chars
least = refl

no_minus_zero : number_of_f (codes "-0") ≡ Err (BadField (codes "f"))
unfolding object_of number_in serde_json_on_literals is_utf8 chars
no_minus_zero = refl

no_fraction : number_of_f (codes "1.0") ≡ Err (BadField (codes "f"))
unfolding object_of number_in serde_json_on_literals is_utf8 chars
no_fraction = refl

no_exponent : number_of_f (codes "1e2") ≡ Err (BadField (codes "f"))
unfolding object_of number_in serde_json_on_literals is_utf8 chars
no_exponent = refl

too_big : number_of_f (codes "18446744073709551616") ≡ Err (BadField (codes "f"))
unfolding object_of number_in serde_json_on_literals is_utf8 chars
too_big = refl

no_object : object_of (codes "[]") ≡ Err NotObject
unfolding object_of serde_json_on_literals is_utf8 chars
no_object = refl

no_json : object_of (codes "{\"f\":1,}") ≡ Err NotJson
unfolding object_of serde_json_on_literals is_utf8 chars
no_json = refl
