-- What is read is a configuration.
use Rattle.std.proofs.Common.{◌≡◌, ℕ, zero, suc, ◌^◌, ◌<◌, pos, negsuc, Bool, true, false, ◌&&◌, ◌||◌, not, ◌==◌, List, [], ◌∷◌, Option, Some, None, Ok, Err, nat_lt, nat_le, length, is_none, codes, IsTrue, refl, sym, ap, ◌∙◌, subst, if◌then◌else◌, arith}
use Rattle.std.proofs.lemmas.Bool.{and_from}
use Rattle.std.proofs.lemmas.Bool.Decides.{nat_tests}
use Rattle.serde_json.specs.Data.{Data, null, boolean, number, string, array, object, Members}
use Rattle.js_base.specs.Bytes.{Bytes, is_empty}
use Rattle.js_base.specs.Names.{name_of, unless_bad, first_bad, is_name_byte}
use Rattle.js_base.specs.declared.name.NameFault.TheVariants.{TooLong}
use Rattle.js_base.proofs.Places.{none_fails}
use Rattle.js_json.specs.Kinds.{as_time}
use Rattle.js_json.specs.TimeReading.{time_at}
use Rattle.js_json.specs.Fields.{field, taken, or_bad, number_in, text_in, time_in}
use Rattle.js_json.proofs.Moments.{time_read}
use Rattle.js_model.specs.Configs.{is_name, is_number, is_queue_name, is_start, is_consumer_config}
use Rattle.js_model.specs.declared.consumer_config.ConsumerConfig.{ConsumerConfig}
use Rattle.consumer_config.specs.Standings.{most}
use Rattle.consumer_config.specs.Table.{Line, table}
use Rattle.consumer_config.specs.Reading.{check, standing, found, starts, lacks_subject, word_in, natural_in, or_usual, usual_ack_wait, deliver_policy_in, config_in, reading}
use Rattle.consumer_config.proofs.Passing.{Passing, both_pass, is_read}
use Rattle.consumer_config.proofs.Fields.{described, filtered, directed, unsaid, grouped, counted, small, usual, usual_within, limited, pended, IsHeartbeat, beaten, start_seq, start_time, started}

-- ---- the name

read_whole : (long : Bool) (bad : Option ℕ) (text : Bytes) → (if long then Err TooLong else unless_bad bad text) ≡ Ok text → (long ≡ false) × (is_none bad ≡ true)
read_whole true bad text e = absurd (cc)
read_whole false None text e = (refl, refl)
read_whole false (Some at) text e = absurd (cc)

within : (n : ℕ) → nat_lt 255 n ≡ false → nat_le n 255 ≡ true
within n h = grind (arith, nat_tests)

-- what is read as a name is one
read_name : (text : Bytes) → name_of text ≡ Ok text → is_name text ≡ true
read_name [] e = absurd (cc)
read_name (byte ∷ more) e =
    let whole = read_whole (nat_lt 255 (length (byte ∷ more))) (first_bad (byte ∷ more)) (byte ∷ more) e in
    and_from _ _ (within (length (byte ∷ more)) whole.0) (sym (none_fails is_name_byte (byte ∷ more)) ∙ whole.1)

-- ---- times

found_time : (name text : Bytes) (o : Option ℕ) (at : ℕ) → time_at text ≡ o → found (or_bad name o) ≡ Some at → is_number at ≡ true
found_time name text None at e h = absurd (cc)
found_time name text (Some n) at e h =
    let same_at : n ≡ at = cc in
    let low : at < 2 ^ 62 = ((time_read text at).0 (e ∙ ap Some same_at)).small in
    grind (arith, nat_tests)

-- a time that is read is below 2^62
timed : (name : Bytes) (value : Option Data) (at : ℕ) → found (taken as_time name value) ≡ Some at → is_number at ≡ true
timed name None at h = absurd (cc)
timed name (Some null) at h = absurd (cc)
timed name (Some (boolean _)) at h = absurd (cc)
timed name (Some (number _)) at h = absurd (cc)
timed name (Some (string text)) at h = found_time name text (time_at text) at refl h
timed name (Some (array _)) at h = absurd (cc)
timed name (Some (object _)) at h = absurd (cc)

-- ---- the whole

-- the field at this place in the table passes
abbrev PassesAt : Members → ℕ → List Line → Type 0
PassesAt fields k [] = Unit {0}
PassesAt fields zero (row ∷ rows) = (check fields row).0 ≡ false
PassesAt fields (suc k) (row ∷ rows) = PassesAt fields k rows

passes_at : (fields : Members) (k : ℕ) (rows : List Line) → Passing fields rows → PassesAt fields k rows
passes_at fields k [] passes = tt
passes_at fields zero (row ∷ rows) passes = passes.0
passes_at fields (suc k) (row ∷ rows) passes = passes_at fields k rows passes.1

abbrev Starts : Members → Type 0
Starts fields = ((starts (codes "by_start_sequence") fields && (natural_in (codes "opt_start_seq") fields == 0)) ≡ false)
    × ((starts (codes "by_start_time") fields && is_none (found (time_in (codes "opt_start_time") fields))) ≡ false)

start_is : (fields : Members) → Passing fields table → Starts fields → is_start (deliver_policy_in fields) ≡ true
unfolding standing table number_in time_in
start_is fields passes some =
    let seq = start_seq (starts (codes "by_start_sequence") fields) (number_in (codes "opt_start_seq") fields) (passes_at fields 23 table passes) some.0 in
    let at = start_time (starts (codes "by_start_time") fields) (found (time_in (codes "opt_start_time") fields)) (timed (codes "opt_start_time") (field (codes "opt_start_time") fields)) some.1 in
    started (word_in (codes "deliver_policy") fields) (natural_in (codes "opt_start_seq") fields) (found (time_in (codes "opt_start_time") fields)) seq at

valid : (name : Bytes) (fields : Members) → is_name name ≡ true → Passing fields table → Starts fields → is_consumer_config (config_in name fields) ≡ true
unfolding config_in standing table
valid name fields is passes some =
    let subject = text_in (codes "deliver_subject") fields in
    let directed_is = directed subject (passes_at fields 5 table passes) in
    let lacks : lacks_subject fields ≡ is_empty (word_in (codes "deliver_subject") fields) = unsaid subject (passes_at fields 5 table passes) in
    let group : (is_empty (word_in (codes "deliver_group") fields) || is_queue_name (word_in (codes "deliver_group") fields) && not (is_empty (word_in (codes "deliver_subject") fields))) ≡ true =
    subst (λ (b : Bool). (is_empty (word_in (codes "deliver_group") fields) || is_queue_name (word_in (codes "deliver_group") fields) && not b) ≡ true) lacks (grouped (lacks_subject fields) (text_in (codes "deliver_group") fields) (passes_at fields 3 table passes)) in
    let beat : IsHeartbeat (is_empty (word_in (codes "deliver_subject") fields)) (natural_in (codes "idle_heartbeat") fields) =
    subst (λ (b : Bool). IsHeartbeat b (natural_in (codes "idle_heartbeat") fields)) lacks (beaten (lacks_subject fields) (number_in (codes "idle_heartbeat") fields) (passes_at fields 12 table passes)) in
    let wait = counted (pos 0) most (number_in (codes "ack_wait") fields) (passes_at fields 1 table passes) in
    let waiting = counted (pos 0) 65536 (number_in (codes "max_waiting") fields) (passes_at fields 19 table passes) in
    let delivers = limited most (natural_in (codes "max_deliver") fields) (counted (negsuc 0) most (number_in (codes "max_deliver") fields) (passes_at fields 17 table passes)) in
    let described_is = described (text_in (codes "description") fields) (passes_at fields 6 table passes) in
    let filter = filtered (text_in (codes "filter_subject") fields) (passes_at fields 8 table passes) in
    let pending = pended (number_in (codes "max_ack_pending") fields) (passes_at fields 14 table passes) in
    let number_is : is_number (or_usual usual_ack_wait (natural_in (codes "ack_wait") fields)) ≡ true = small _ (usual_within usual_ack_wait most (natural_in (codes "ack_wait") fields) refl wait) in
    and_from _ _ (and_from _ _ (and_from _ _ (and_from _ _ (and_from _ _ (and_from _ _ (and_from _ _ (and_from _ _ (and_from _ _ (and_from _ _ (and_from _ _ (and_from _ _ (and_from _ _
    is described_is) (start_is fields passes some)) (usual usual_ack_wait (natural_in (codes "ack_wait") fields) refl)) number_is) delivers) pending)
    (usual 512 (natural_in (codes "max_waiting") fields) refl)) (usual_within 512 65536 (natural_in (codes "max_waiting") fields) refl waiting)) filter) directed_is) group) beat.number) beat.directed

-- a configuration that is read is one
pub read_valid : (name : Bytes) (fields : Members) (config : ConsumerConfig) → name_of name ≡ Ok name → reading name fields ≡ Ok config → IsTrue (is_consumer_config config)
read_valid name fields config is read =
    let known = is_read name fields config read in
    subst (λ (c : ConsumerConfig). IsTrue (is_consumer_config c)) (sym known.config_is) (valid name fields (read_name name is) known.passes (both_pass _ _ known.starts))
