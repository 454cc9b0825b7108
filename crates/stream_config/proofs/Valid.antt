-- What is read is a valid configuration.
use Rattle.std.proofs.Common.{◌≡◌, ℕ, zero, suc, ◌-◌, ◌^◌, ℤ, pos, negsuc, Bool, true, false, ◌&&◌, ◌||◌, not, ◌==◌, List, [], ◌∷◌, Option, Some, None, Result, Ok, Err, nat_lt, nat_le, length, codes, IsTrue, refl, sym, ap, ◌∙◌, subst, if◌then◌else◌, arith}
use Rattle.std.specs.Prelude.{unwrap_or}
use Rattle.std.specs.List.{list_all}
use Rattle.std.specs.Str.{is_utf8, chars}
use Rattle.std.proofs.lemmas.Bool.{and_parts, and_from}
use Rattle.std.proofs.lemmas.Bool.Decides.{nat_tests}
use Rattle.serde_json.specs.Data.{Members}
use Rattle.js_base.specs.Bytes.{Bytes, is_empty, same}
use Rattle.js_base.specs.Names.{name_of}
use Rattle.js_json.specs.declared.fault.JsonFault.{JsonFault}
use Rattle.js_json.specs.Fields.{number_in, text_in, texts_in}
use Rattle.js_model.specs.Configs.{is_name, is_limit, is_number, is_description, is_stream_subject, is_stream_config}
use Rattle.js_model.specs.declared.stream_config.StreamConfig.{StreamConfig}
use Rattle.stream_config.specs.declared.rule.Standing.TheVariants.{Invalid}
use Rattle.stream_config.specs.declared.rule.TextRule.TheVariants.{Description}
use Rattle.stream_config.specs.declared.rule.NumberRule.TheVariants.{Limit, Nanos, Window}
use Rattle.stream_config.specs.Standings.{allowed, text_standing, number_standing, nanos_standing, subjects_standing, is_subject, are_subjects}
use Rattle.stream_config.specs.Table.{Line, table, most}
use Rattle.stream_config.specs.Reading.{check, judged, is_refused, standing, found, natural_or_0, natural_in, age_in, limit_of, window_of, usual_window, subjects_or, config_in, reading}
use Rattle.stream_config.proofs.Named.{name_subject, read_name}
use Rattle.stream_config.proofs.Numbers.{some, nanos_is, limit_is, limit_kept, window_kept}
use Rattle.stream_config.proofs.Passing.{Passing, read_passes}

is_allowed : (may : Bool) → is_refused (allowed may) ≡ false → may ≡ true
is_allowed true h = refl
is_allowed false h = absurd (cc)

-- ---- texts

described : (read : Result (Option Bytes) JsonFault) → is_refused (judged (text_standing Description) read) ≡ false → is_description (unwrap_or (found read) []) ≡ true
unfolding is_utf8 chars
described (Ok None) h = refl
described (Ok (Some text)) h = is_allowed (is_description text) h
described (Err fault) h = absurd (cc)

-- ---- numbers

below : (n : ℕ) → nat_le n (2 ^ 62 - 1) ≡ true → nat_lt n (2 ^ 62) ≡ true
below n h = grind (arith, nat_tests)

nanos_below : (n : ℕ) → is_refused (nanos_standing (pos n)) ≡ false → nat_lt n (2 ^ 62) ≡ true
nanos_below n h = below n (is_allowed (nat_le n (2 ^ 62 - 1)) (sym (ap is_refused (nanos_is n)) ∙ h))

aged : (age : ℕ) (read : Result (Option ℤ) JsonFault) → is_refused (judged (number_standing Nanos age) read) ≡ false → is_number (natural_or_0 (found read)) ≡ true
aged age (Ok None) h = refl
aged age (Ok (Some (pos n))) h = nanos_below n h
aged age (Ok (Some (negsuc n))) h = refl
aged age (Err fault) h = absurd (cc)

limited : (greatest age : ℕ) (read : Result (Option ℤ) JsonFault) → is_refused (judged (number_standing (Limit greatest) age) read) ≡ false → is_limit greatest (limit_of (natural_or_0 (found read))) ≡ true
limited greatest age (Ok None) h = refl
limited greatest age (Ok (Some (pos zero))) h = refl
limited greatest age (Ok (Some (pos (suc n)))) h =
    let small = is_allowed (nat_le (suc n) greatest) (sym (ap is_refused (limit_is greatest (suc n))) ∙ h) in
    rw (limit_kept (suc n) (some n)) (and_from _ _ (some n) small)
limited greatest age (Ok (Some (negsuc n))) h = refl
limited greatest age (Err fault) h = absurd (cc)

record IsWindow (age window : ℕ) : Type 0 where
  number : is_number window ≡ true
  some : nat_lt 0 window ≡ true
  within : ((age == 0) || nat_le window age) ≡ true

usual_is : (age : ℕ) → is_number age ≡ true → IsWindow age (window_of age 0)
usual_is age h = by (nat_lt 0 age && nat_lt age usual_window) refl
  where
    by : (short : Bool) → (nat_lt 0 age && nat_lt age usual_window) ≡ short → IsWindow age (if short then age else usual_window)
    by true e = let parts = and_parts (nat_lt 0 age) (nat_lt age usual_window) e in record { number = h; some = parts.0; within = grind (arith, nat_tests) }
    by false e = record { number = refl; some = refl; within = grind (arith, nat_tests) }

windowed : (age : ℕ) (read : Result (Option ℤ) JsonFault) → is_number age ≡ true → is_refused (judged (number_standing Window age) read) ≡ false → IsWindow age (window_of age (natural_or_0 (found read)))
windowed age (Ok None) number h = usual_is age number
windowed age (Ok (Some (pos zero))) number h = usual_is age number
windowed age (Ok (Some (pos (suc n)))) number h = by (nat_lt 0 age && nat_lt age (suc n)) refl h
  where
    by : (long : Bool) → (nat_lt 0 age && nat_lt age (suc n)) ≡ long → is_refused (if long then Invalid else nanos_standing (pos (suc n))) ≡ false → IsWindow age (window_of age (suc n))
    by true e h = absurd (cc)
    by false e h = rw (window_kept age (suc n) (some n)) (record { number = nanos_below (suc n) h; some = some n; within = grind (arith, nat_tests) })
windowed age (Ok (Some (negsuc n))) number h = usual_is age number
windowed age (Err fault) number h = absurd (cc)

same_age : (age : ℕ) → is_number age ≡ true → (if nat_lt age (2 ^ 62) then age else 0) ≡ age
same_age age h = rw h refl

-- ---- subjects

record AreSubjects (subjects : List Bytes) : Type 0 where
  filled : not (is_empty subjects) ≡ true
  few : nat_le (length subjects) 256 ≡ true
  each : list_all is_stream_subject subjects ≡ true

name_alone : (name : Bytes) → is_name name ≡ true → AreSubjects (name ∷ [])
name_alone name h = record { filled = refl; few = refl; each = and_from _ _ (name_subject name h) refl }

stand : (subjects : List Bytes) → not (is_empty subjects) ≡ true → is_refused (subjects_standing subjects) ≡ false → AreSubjects subjects
unfolding is_subject
stand subjects filled h =
    let parts = and_parts (nat_le (length subjects) 256) (list_all is_subject subjects) (is_allowed (are_subjects subjects) h) in
    record { filled = filled; few = parts.0; each = parts.1 }

subjected : (name : Bytes) (read : Result (Option (List Bytes)) JsonFault) → is_name name ≡ true → is_refused (judged subjects_standing read) ≡ false → AreSubjects (subjects_or name (found read))
subjected name (Ok None) is h = name_alone name is
subjected name (Ok (Some [])) is h = name_alone name is
subjected name (Ok (Some (subject ∷ subjects))) is h = stand (subject ∷ subjects) refl h
subjected name (Err fault) is h = absurd (cc)

-- ---- the whole

-- the field at this place in the table passes
abbrev PassesAt : Members → ℕ → List Line → Type 0
PassesAt fields k [] = Unit {0}
PassesAt fields zero (row ∷ rows) = (check fields row).0 ≡ false
PassesAt fields (suc k) (row ∷ rows) = PassesAt fields k rows

passes_at : (fields : Members) (k : ℕ) (rows : List Line) → Passing fields rows → PassesAt fields k rows
passes_at fields k [] passes = tt
passes_at fields zero (row ∷ rows) passes = passes.0
passes_at fields (suc k) (row ∷ rows) passes = passes_at fields k rows passes.1

valid : (name : Bytes) (fields : Members) → is_name name ≡ true → Passing fields table → is_stream_config (config_in name fields) ≡ true
unfolding config_in standing table
valid name fields is passes =
    let age : is_number (natural_in (codes "max_age") fields) ≡ true = aged (age_in fields) (number_in (codes "max_age") fields) (passes_at fields 12 table passes) in
    let subjects : AreSubjects (subjects_or name (found (texts_in (codes "subjects") fields))) = subjected name (texts_in (codes "subjects") fields) is (passes_at fields 30 table passes) in
    let max_age = natural_in (codes "max_age") fields in
    let fits_window : is_refused (judged (number_standing Window max_age) (number_in (codes "duplicate_window") fields)) ≡ false =
    subst (λ (age : ℕ). is_refused (judged (number_standing Window age) (number_in (codes "duplicate_window") fields)) ≡ false) (same_age max_age age) (passes_at fields 10 table passes) in
    let window : IsWindow max_age (window_of max_age (natural_in (codes "duplicate_window") fields)) = windowed max_age (number_in (codes "duplicate_window") fields) age fits_window in
    let described_is = described (text_in (codes "description") fields) (passes_at fields 7 table passes) in
    let msgs = limited most (age_in fields) (number_in (codes "max_msgs") fields) (passes_at fields 16 table passes) in
    let bytes = limited most (age_in fields) (number_in (codes "max_bytes") fields) (passes_at fields 13 table passes) in
    let for_each = limited most (age_in fields) (number_in (codes "max_msgs_per_subject") fields) (passes_at fields 17 table passes) in
    let size = limited most (age_in fields) (number_in (codes "max_msg_size") fields) (passes_at fields 15 table passes) in
    let consumers = limited 256 (age_in fields) (number_in (codes "max_consumers") fields) (passes_at fields 14 table passes) in
    and_from _ _ (and_from _ _ (and_from _ _ (and_from _ _ (and_from _ _ (and_from _ _ (and_from _ _ (and_from _ _ (and_from _ _ (and_from _ _ (and_from _ _ (and_from _ _ (and_from _ _
    is described_is) subjects.filled) subjects.few) subjects.each) msgs) bytes) for_each) size) consumers) age) window.number) window.some) window.within

-- a configuration that is read is one
pub read_valid : (name : Bytes) (fields : Members) (config : StreamConfig) → name_of name ≡ Ok name → reading name fields ≡ Ok config → IsTrue (is_stream_config config)
read_valid name fields config is read =
    let passes = read_passes name fields config read in
    subst (λ (c : StreamConfig). IsTrue (is_stream_config c)) (sym passes.1) (valid name fields (read_name name is) passes.0)
