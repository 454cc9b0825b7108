-- What is read of a field that is not refused.
use Rattle.std.proofs.Common.{◌≡◌, ℕ, zero, suc, ℤ, pos, negsuc, Bool, true, false, ◌&&◌, ◌||◌, not, ◌==◌, [], Option, Some, None, Result, Ok, Err, nat_lt, nat_le, is_none, codes, refl, sym, ◌∙◌, ap, if◌then◌else◌, arith}
use Rattle.std.specs.Prelude.{unwrap_or}
use Rattle.std.specs.Str.{is_utf8, chars}
use Rattle.std.proofs.lemmas.Bool.{and_parts, and_from, true≢false}
use Rattle.std.proofs.lemmas.Bool.Decides.{nat_tests}
use Rattle.js_base.specs.Bytes.{Bytes, is_empty, same}
use Rattle.js_base.specs.Subjects.{is_pattern_text}
use Rattle.js_json.specs.declared.fault.JsonFault.{JsonFault}
use Rattle.js_model.specs.Configs.{is_limit, is_number, is_description, is_deliver_subject, is_queue_name, is_start}
use Rattle.js_model.specs.declared.consumer_config.DeliverPolicy.TheVariants as delivers
use Rattle.consumer_config.specs.declared.rule.Standing.TheVariants.{Held}
use Rattle.consumer_config.specs.declared.rule.TextRule.TheVariants as texts
use Rattle.consumer_config.specs.Standings.{most, allowed, within, text_standing, number_standing, group_standing, heartbeat_standing}
use Rattle.consumer_config.specs.Reading.{found, natural_or_0, is_unsaid, judged, is_refused, or_usual, pending_of, limit_of, from_time, deliver_policy_of}

is_allowed : (may : Bool) → is_refused (allowed may) ≡ false → may ≡ true
is_allowed true h = refl
is_allowed false h = absurd (cc)

-- ---- texts

abbrev word : Result (Option Bytes) JsonFault → Bytes
word read = unwrap_or (found read) []

pub described : (read : Result (Option Bytes) JsonFault) → is_refused (judged (text_standing texts.Description) read) ≡ false → is_description (word read) ≡ true
unfolding is_utf8 chars
described (Ok None) h = refl
described (Ok (Some text)) h = is_allowed (is_description text) h
described (Err fault) h = absurd (cc)

pub filtered : (read : Result (Option Bytes) JsonFault) → is_refused (judged (text_standing texts.Filter) read) ≡ false
    → (is_empty (word read) || is_pattern_text (word read)) ≡ true
filtered (Ok None) h = refl
filtered (Ok (Some text)) h = is_allowed (is_empty text || is_pattern_text text) h
filtered (Err fault) h = absurd (cc)

pub directed : (read : Result (Option Bytes) JsonFault) → is_refused (judged (text_standing texts.DeliverSubject) read) ≡ false
    → (is_empty (word read) || is_deliver_subject (word read)) ≡ true
directed (Ok None) h = refl
directed (Ok (Some text)) h = is_allowed (is_empty text || is_deliver_subject text) h
directed (Err fault) h = absurd (cc)

-- no deliver subject is given, unless that field is wrong
pub unsaid : (subject : Result (Option Bytes) JsonFault) → is_refused (judged (text_standing texts.DeliverSubject) subject) ≡ false → is_unsaid subject ≡ is_empty (word subject)
unsaid (Ok None) h = refl
unsaid (Ok (Some text)) h = refl
unsaid (Err fault) h = absurd (cc)

pub grouped : (lacks : Bool) (read : Result (Option Bytes) JsonFault) → is_refused (judged (group_standing lacks) read) ≡ false
    → (is_empty (word read) || is_queue_name (word read) && not lacks) ≡ true
grouped lacks (Ok None) h = refl
grouped lacks (Ok (Some text)) h = is_allowed (is_empty text || is_queue_name text && not lacks) h
grouped lacks (Err fault) h = absurd (cc)

-- ---- numbers

pub suc_not_0 : (n : ℕ) → (suc n == 0) ≡ false
suc_not_0 n = grind (arith, nat_tests)

abbrev count : Result (Option ℤ) JsonFault → ℕ
count read = natural_or_0 (found read)

from_0 : (n : ℕ) → nat_le 0 n ≡ true
from_0 n = grind (arith, nat_tests)

-- a number from the one to the other, if it is not below 0
up_to : (low : ℤ) (high n : ℕ) → is_refused (number_standing low (pos high) (pos n)) ≡ false → nat_le n high ≡ true
up_to low high n h = (and_parts _ _ (is_allowed (within low (pos high) (pos n)) h)).1

pub counted : (low : ℤ) (high : ℕ) (read : Result (Option ℤ) JsonFault) → is_refused (judged (number_standing low (pos high)) read) ≡ false → nat_le (count read) high ≡ true
counted low high (Ok None) h = from_0 high
counted low high (Ok (Some (pos n))) h = up_to low high n h
counted low high (Ok (Some (negsuc n))) h = from_0 high
counted low high (Err fault) h = absurd (cc)

pub small : (n : ℕ) → nat_le n most ≡ true → is_number n ≡ true
small n h = grind (arith, nat_tests)

over_0 : (n : ℕ) → nat_lt 0 (suc n) ≡ true
over_0 n = grind (arith, nat_tests)

pub usual : (low n : ℕ) → nat_lt 0 low ≡ true → nat_lt 0 (or_usual low n) ≡ true
usual low zero h = h
usual low (suc n) h = rw (suc_not_0 n) (over_0 n)

pub usual_within : (low high n : ℕ) → nat_le low high ≡ true → nat_le n high ≡ true → nat_le (or_usual low n) high ≡ true
usual_within low high zero h small = h
usual_within low high (suc n) h small = rw (suc_not_0 n) small

pub limited : (high n : ℕ) → nat_le n high ≡ true → is_limit high (limit_of n) ≡ true
limited high zero h = refl
limited high (suc n) h = rw (suc_not_0 n) (and_from _ _ (over_0 n) h)

pub pended : (read : Result (Option ℤ) JsonFault) → is_refused (judged (number_standing (negsuc 0) (pos 65536)) read) ≡ false → is_limit 65536 (pending_of (found read)) ≡ true
pended (Ok None) h = refl
pended (Ok (Some (pos n))) h = and_from _ _ (usual 1000 n refl) (usual_within 1000 65536 n refl (up_to (negsuc 0) 65536 n h))
pended (Ok (Some (negsuc n))) h = refl
pended (Err fault) h = absurd (cc)

-- a heartbeat, which needs a deliver subject
pub record IsHeartbeat (lacks : Bool) (n : ℕ) : Type 0 where
  pub number : is_number n ≡ true
  pub directed : ((n == 0) || not lacks) ≡ true

needs : (lacks : Bool) (n : ℕ) → not (lacks && nat_lt 0 n) ≡ true → ((n == 0) || not lacks) ≡ true
needs lacks zero h = refl
needs true (suc n) h = absurd (true≢false (sym h ∙ ap not (over_0 n)))
needs false (suc n) h = rw (suc_not_0 n) refl

pub beaten : (lacks : Bool) (read : Result (Option ℤ) JsonFault) → is_refused (judged (heartbeat_standing lacks) read) ≡ false → IsHeartbeat lacks (count read)
beaten lacks (Ok None) h = record { number = refl; directed = refl }
beaten lacks (Ok (Some (pos n))) h =
    let parts = and_parts (within (pos 0) (pos most) (pos n)) (not (lacks && nat_lt 0 n)) (is_allowed _ h) in
    record { number = small n (and_parts _ _ parts.0).1; directed = needs lacks n parts.1 }
beaten lacks (Ok (Some (negsuc n))) h = record { number = refl; directed = refl }
beaten lacks (Err fault) h = absurd (cc)

-- ---- where a consumer starts

both_false : (a b : Bool) → a && b ≡ false → a ≡ true → b ≡ false
both_false true b h e = h
both_false false b h e = absurd (cc)

pub start_seq : (starts : Bool) (read : Result (Option ℤ) JsonFault) → is_refused (if starts then judged (number_standing (pos 0) (pos most)) read else Held) ≡ false
    → starts && (count read == 0) ≡ false → starts ≡ true → (nat_lt 0 (count read) && is_number (count read)) ≡ true
start_seq true read h some e = let over : nat_lt 0 (count read) ≡ true = above (count read) some in and_from _ _ over (small (count read) (counted (pos 0) most read h))
  where
    above : (n : ℕ) → (n == 0) ≡ false → nat_lt 0 n ≡ true
    above n h = grind (arith, nat_tests)
start_seq false read h some e = absurd (cc)

pub start_time : (starts : Bool) (at : Option ℕ) → ((n : ℕ) → at ≡ Some n → is_number n ≡ true) → starts && is_none at ≡ false → starts ≡ true → is_start (from_time at) ≡ true
start_time starts None small some e = refl
start_time starts (Some at) small some e = small at refl

pub started : (text : Bytes) (seq : ℕ) (at : Option ℕ) → (same text (codes "by_start_sequence") ≡ true → (nat_lt 0 seq && is_number seq) ≡ true)
    → (same text (codes "by_start_time") ≡ true → is_start (from_time at) ≡ true) → is_start (deliver_policy_of text seq at) ≡ true
started text seq at by_seq by_time =
    by (same text (codes "last")) (same text (codes "new")) (same text (codes "by_start_sequence")) (same text (codes "by_start_time")) (same text (codes "last_per_subject")) by_seq by_time
  where
    by : (last new sequence time subject : Bool) → (sequence ≡ true → (nat_lt 0 seq && is_number seq) ≡ true) → (time ≡ true → is_start (from_time at) ≡ true)
        → is_start (if last then delivers.Last else if new then delivers.New else if sequence then delivers.ByStartSequence seq else if time then from_time at else if subject then delivers.LastPerSubject else delivers.All) ≡ true
    by true new sequence time subject s t = refl
    by false true sequence time subject s t = refl
    by false false true time subject s t = s refl
    by false false false true subject s t = t refl
    by false false false false true s t = refl
    by false false false false false s t = refl
