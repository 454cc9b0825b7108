-- The texts of the refusals of calls on consumers are ASCII.
use Rattle.std.proofs.Common.{◌≡◌, List, [], ◌∷◌, ◌++◌, Bool, true, false, ◌&&◌, Option, Some, None, Result, Ok, Err, codes, refl, if◌then◌else◌, arith}
use Rattle.std.specs.List.{list_all}
use Rattle.std.proofs.lemmas.Bool.{and_parts}
use Rattle.serde_json.specs.Data.{Members}
use Rattle.js_base.specs.Bytes.{Bytes, same}
use Rattle.js_base.specs.declared.out.ApiError.{ApiError}
use Rattle.js_json.specs.declared.fault.JsonFault.{JsonFault}
use Rattle.js_json.specs.Fields.{part_in}
use Rattle.js_model.specs.Refusals.{Check, first_refusal, invalid_value, name_mismatch}
use Rattle.js_model.specs.declared.consumer_config.ConsumerConfig.{ConsumerConfig}
use Rattle.consumer_config.specs.Table.{Line, table}
use Rattle.consumer_config.specs.Reading.{check, checks, standing, refusal_of, start_checks, name_checks, refusal_in, config_in as read_config, config_unless, reading}
use Rattle.api_requests.specs.declared.consumer_call.ConsumerCall.{ConsumerCall}
use Rattle.api_requests.specs.declared.consumer_call.ConsumerCall.TheVariants as consumer
use Rattle.api_requests.specs.declared.consumers.Settings.{Settings}
use Rattle.api_requests.specs.Fields.{text_in, given_text_in}
use Rattle.api_requests.specs.Bodies.{object_in, token_name}
use Rattle.api_requests.specs.ConsumerCalls.{Tokens}
use Rattle.api_requests.specs.Consumers.{names_of, update_by, update_in, config_told, unless, checked, config_in, settings_in, agrees, agreeing, creation_of}
use Rattle.api_requests.specs.Requests.{consumer_request}
use Rattle.api_requests.proofs.Plain.{is_ascii, Plain, wrong_plain, told, first_by, one_of, chosen}
use Rattle.api_requests.proofs.PlainFields.{text_plain, given_plain}
use Rattle.api_requests.proofs.PlainBodies.{object_plain, name_plain}

-- ---- the configuration

row_plain : (row : Line) (fields : Members) → is_ascii row.name ≡ true → Plain (refusal_of row.name (standing row.rule row.name fields))
row_plain row fields h = record { ascii = grind (arith, h) }

abbrev names_itself : Line → Bool
names_itself row = is_ascii row.name

table_ascii : list_all names_itself table ≡ true
unfolding table
table_ascii = refl

rows_plain : (fields : Members) (rows : List Line) (others : List Check) (refusal : ApiError) → list_all names_itself rows ≡ true → first_refusal (checks fields rows ++ others) ≡ Some refusal
    → (first_refusal others ≡ Some refusal → Plain refusal) → Plain refusal
rows_plain fields [] others refusal h e more = more e
rows_plain fields (row ∷ rows) others refusal h e more =
    let parts = and_parts (names_itself row) (list_all names_itself rows) h in
    first_by (check fields row).0 (check fields row).1 (checks fields rows ++ others) refusal e
    (row_plain row fields parts.0)
    (λ next. rows_plain fields rows others refusal parts.1 next more)

-- the refusals of checks are plain ones
abbrev ArePlain : List Check → Type 0
ArePlain [] = Unit {0}
ArePlain (check ∷ more) = Plain check.1 × ArePlain more

first_plain : (cs : List Check) (refusal : ApiError) → ArePlain cs → first_refusal cs ≡ Some refusal → Plain refusal
first_plain [] refusal are e = absurd (cc)
first_plain (c ∷ cs) refusal are e = first_by c.0 c.1 cs refusal e are.0 (λ more. first_plain cs refusal are.1 more)

start_plain : (name : Bytes) (fields : Members) (refusal : ApiError) → first_refusal (start_checks fields ++ name_checks name fields) ≡ Some refusal → Plain refusal
start_plain name fields refusal e =
    first_plain (start_checks fields ++ name_checks name fields) refusal
    (record { ascii = refl }, (record { ascii = refl }, (record { ascii = refl }, (record { ascii = refl }, tt)))) e

unless_by : (found : Option ApiError) (config : ConsumerConfig) (refusal : ApiError) → config_unless found config ≡ Err refusal → found ≡ Some refusal
unless_by None config refusal e = absurd (cc)
unless_by (Some r) config refusal e = cc

reading_plain : (name : Bytes) (fields : Members) (refusal : ApiError) → reading name fields ≡ Err refusal → Plain refusal
unfolding reading
reading_plain name fields refusal e =
    rows_plain fields table (start_checks fields ++ name_checks name fields) refusal table_ascii (unless_by (refusal_in name fields) (read_config name fields) refusal e) (start_plain name fields refusal)

-- ---- its fields

first_is : (found : Option ApiError) (refusal : ApiError) → unless found ≡ Err refusal → found ≡ Some refusal
first_is None refusal e = absurd (cc)
first_is (Some r) refusal e = cc

no_more : (cs : List Check) → cs ++ [] ≡ cs
no_more [] = refl
no_more (c ∷ cs) = rw (no_more cs) refl

checked_plain : (config : Members) (refusal : ApiError) → checked config ≡ Err refusal → Plain refusal
unfolding checked
checked_plain config refusal e =
    rows_plain config table [] refusal table_ascii (rw (no_more (checks config table)) (first_is (first_refusal (checks config table)) refusal e)) (λ none. absurd (cc))

told_plain : (read : Result (Option Members) JsonFault) (refusal : ApiError) → config_told read ≡ Err refusal → Plain refusal
told_plain (Ok None) refusal e = object_plain (codes "{}") refusal e
told_plain (Ok (Some _)) refusal e = absurd (cc)
told_plain (Err fault) refusal e = told _ refusal e (wrong_plain (codes "config") refl)

config_plain : (fields : Members) (refusal : ApiError) → config_in fields ≡ Err refusal → Plain refusal
unfolding config_in
config_plain fields refusal e =
    one_of (config_told (part_in (codes "config") fields)) _ refusal e (told_plain (part_in (codes "config") fields) refusal)
    (λ config judged. one_of (checked config) _ refusal judged (checked_plain config refusal) (λ _ made. absurd (cc)))

-- ---- the body

update_by_plain : (action : Option Bytes) (refusal : ApiError) → update_by action ≡ Err refusal → Plain refusal
update_by_plain None refusal e = absurd (cc)
update_by_plain (Some text) refusal e = by (same text (codes "create")) (same text (codes "update")) e
  where
    by : (create update : Bool) → ◌≡◌ {A = Result Bool ApiError} (if create then Ok false else if update then Ok true else Err (invalid_value (codes "action"))) (Err refusal) → Plain refusal
    by true update e = absurd (cc)
    by false true e = absurd (cc)
    by false false e = told _ refusal e (wrong_plain (codes "action") refl)

update_plain : (fields : Members) (refusal : ApiError) → update_in fields ≡ Err refusal → Plain refusal
unfolding update_in
update_plain fields refusal e =
    one_of (text_in (codes "action") fields) _ refusal e (text_plain _ fields refusal refl) (λ action made. update_by_plain action refusal made)

pub settings_plain : (name : Bytes) (fields : Members) (refusal : ApiError) → settings_in name fields ≡ Err refusal → Plain refusal
unfolding settings_in
settings_plain name fields refusal e =
    one_of (update_in fields) _ refusal e (update_plain fields refusal)
    (λ update configured. one_of (config_in fields) _ refusal configured (config_plain fields refusal)
    (λ members named. one_of (given_text_in (codes "stream_name") fields) _ refusal named (given_plain _ fields refusal refl)
    (λ stream read. one_of (reading name members) _ refusal read (reading_plain name members refusal) (λ config made. absurd (cc)))))

agreeing_plain : (stream : Bytes) (filter : Option Bytes) (settings : Settings) (refusal : ApiError) → agreeing stream filter settings ≡ Err refusal → Plain refusal
agreeing_plain stream filter settings refusal e =
    chosen (agrees settings.stream stream && agrees filter settings.config.filter_subject) tt name_mismatch refusal e (record { ascii = refl })

names_plain : (tokens : Tokens) (refusal : ApiError) → names_of tokens ≡ Err refusal → Plain refusal
unfolding names_of
names_plain tokens refusal e =
    one_of (token_name tokens.stream) _ refusal e (name_plain tokens.stream refusal)
    (λ stream named. one_of (token_name tokens.consumer) _ refusal named (name_plain tokens.consumer refusal) (λ name made. absurd (cc)))

creation_plain : (tokens : Tokens) (body : Bytes) (refusal : ApiError) → creation_of tokens body ≡ Err refusal → Plain refusal
unfolding creation_of
creation_plain tokens body refusal e =
    one_of (object_in body) _ refusal e (object_plain body refusal)
    (λ fields named. one_of (names_of tokens) _ refusal named (names_plain tokens refusal)
    (λ names set. one_of (settings_in names.1 fields) _ refusal set (settings_plain names.1 fields refusal)
    (λ settings agreed. one_of (agreeing names.0 tokens.filter settings) _ refusal agreed (agreeing_plain names.0 tokens.filter settings refusal) (λ _ made. absurd (cc)))))

-- ---- calls

pub consumer_plain : (call : ConsumerCall) (tokens : Tokens) (body : Bytes) (refusal : ApiError) → consumer_request call tokens body ≡ Err refusal → Plain refusal
unfolding consumer_request
consumer_plain consumer.Create tokens body refusal e = one_of (creation_of tokens body) _ refusal e (creation_plain tokens body refusal) (λ made is. absurd (cc))
consumer_plain consumer.DurableCreate tokens body refusal e = one_of (creation_of tokens body) _ refusal e (creation_plain tokens body refusal) (λ made is. absurd (cc))
consumer_plain consumer.Info tokens body refusal e = one_of (names_of tokens) _ refusal e (names_plain tokens refusal) (λ names is. absurd (cc))
consumer_plain consumer.Delete tokens body refusal e = one_of (names_of tokens) _ refusal e (names_plain tokens refusal) (λ names is. absurd (cc))
consumer_plain consumer.MsgNext tokens body refusal e = absurd (cc)
