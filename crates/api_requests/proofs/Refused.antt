-- The texts of refusals are ASCII.
use Rattle.std.proofs.Common.{◌≡◌, ℕ, zero, suc, ◌<◌, nat_lt, List, [], ◌∷◌, ◌++◌, Bool, true, false, Option, Some, None, Result, Ok, Err, IsUtf8, codes, slice_index, refl, subst, arith}
use Rattle.std.specs.List.{list_all}
use Rattle.std.proofs.lemmas.Bool.{and_parts}
use Rattle.std.proofs.lemmas.Bool.Decides.{nat_tests}
use Rattle.std.proofs.lemmas.Str.{IsUtf8-from_ascii}
use Rattle.serde_json.specs.Data.{Members}
use Rattle.js_base.specs.Bytes.{Bytes}
use Rattle.js_base.specs.declared.out.ApiError.{ApiError}
use Rattle.js_model.specs.Refusals.{Check, first_refusal, name_mismatch}
use Rattle.js_model.specs.declared.stream_config.StreamConfig.{StreamConfig}
use Rattle.stream_config.specs.Table.{Line, table}
use Rattle.stream_config.specs.Reading.{check, checks, standing, refusal_of, names_another, refusal_in, config_in, config_unless, reading}
use Rattle.api_requests.specs.declared.call.GeneralCall.{GeneralCall}
use Rattle.api_requests.specs.declared.call.GeneralCall.TheVariants as general
use Rattle.api_requests.specs.declared.call.StreamCall.{StreamCall}
use Rattle.api_requests.specs.declared.call.StreamCall.TheVariants as stream
use Rattle.api_requests.specs.declared.consumer_call.ConsumerCall.{ConsumerCall}
use Rattle.api_requests.specs.Calls.{general_call, stream_call}
use Rattle.api_requests.specs.ConsumerCalls.{Tokens, consumer_call}
use Rattle.api_requests.specs.Bodies.{object_in, fields_of, token_name, listing_of, setup_of, page_of}
use Rattle.api_requests.specs.Messages.{purge_in, message_in, sequence_in}
use Rattle.api_requests.specs.Consumers.{settings_in}
use Rattle.api_requests.specs.Requests.{general_request, stream_request, consumer_request, or_on_consumer, or_on_stream, request_of}
use Rattle.api_requests.proofs.Plain.{is_ascii, Plain, told, first_by, one_of}
use Rattle.api_requests.proofs.PlainBodies.{object_plain, fields_plain, name_plain, listing_plain, page_plain}
use Rattle.api_requests.proofs.PlainConsumers.{settings_plain, consumer_plain}
use Rattle.api_requests.proofs.PlainMessages.{purge_plain, message_plain, sequence_plain}

small : (byte : ℕ) → nat_lt byte 128 ≡ true → byte < 128
small byte h = grind (arith, nat_tests)

ascii_at : (text : Bytes) (i : ℕ) → is_ascii text ≡ true → slice_index text i < 128
ascii_at [] i h = omega arith
ascii_at (byte ∷ more) zero h = small byte (and_parts (nat_lt byte 128) (is_ascii more) h).0
ascii_at (byte ∷ more) (suc i) h = ascii_at more i (and_parts (nat_lt byte 128) (is_ascii more) h).1

-- ---- configurations

row_plain : (row : Line) (fields : Members) → is_ascii row.name ≡ true → Plain (refusal_of row.name (standing row.rule row.name fields))
row_plain row fields h = record { ascii = grind (arith, h) }

abbrev names_itself : Line → Bool
names_itself row = is_ascii row.name

table_ascii : list_all names_itself table ≡ true
unfolding table
table_ascii = refl

rows_plain : (fields : Members) (rows : List Line) (others : List Check) (refusal : ApiError) → list_all names_itself rows ≡ true → first_refusal (checks fields rows ++ others) ≡ Some refusal
    → (first_refusal others ≡ Some refusal → Plain refusal) → Plain refusal
rows_plain fields [] others refusal h e more = more e
rows_plain fields (row ∷ rows) others refusal h e more =
    let parts = and_parts (names_itself row) (list_all names_itself rows) h in
    first_by (check fields row).0 (check fields row).1 (checks fields rows ++ others) refusal e
    (row_plain row fields parts.0)
    (λ next. rows_plain fields rows others refusal parts.1 next more)

config_by : (name : Bytes) (fields : Members) (refusal : ApiError) → refusal_in name fields ≡ Some refusal → Plain refusal
config_by name fields refusal e =
    rows_plain fields table ((names_another name fields, name_mismatch) ∷ []) refusal table_ascii e
    (λ last. first_by (names_another name fields) name_mismatch [] refusal last (record { ascii = refl }) (λ none. absurd (cc)))

unless_by : (told : Option ApiError) (config : StreamConfig) (refusal : ApiError) → config_unless told config ≡ Err refusal → told ≡ Some refusal
unless_by None config refusal e = absurd (cc)
unless_by (Some r) config refusal e = cc

config_plain : (name : Bytes) (fields : Members) (refusal : ApiError) → reading name fields ≡ Err refusal → Plain refusal
unfolding reading
config_plain name fields refusal e = config_by name fields refusal (unless_by (refusal_in name fields) (config_in name fields) refusal e)

setup_plain : (token body : Bytes) (refusal : ApiError) → setup_of token body ≡ Err refusal → Plain refusal
unfolding setup_of
setup_plain token body refusal e =
    one_of (fields_of body) _ refusal e (fields_plain body refusal)
    (λ fields named. one_of (token_name token) _ refusal named (name_plain token refusal)
    (λ name configured. one_of (reading name fields) _ refusal configured (config_plain name fields refusal) (λ config made. absurd (cc))))

-- ---- calls

general_plain : (call : GeneralCall) (body : Bytes) (refusal : ApiError) → general_request call body ≡ Err refusal → Plain refusal
unfolding general_request
general_plain general.AccountInfo body refusal e = absurd (cc)
general_plain general.StreamNames body refusal e = one_of (listing_of body) _ refusal e (listing_plain body refusal) (λ listing made. absurd (cc))
general_plain general.StreamList body refusal e = one_of (listing_of body) _ refusal e (listing_plain body refusal) (λ listing made. absurd (cc))

on_stream_plain : (call : StreamCall) (token body : Bytes) (refusal : ApiError) → stream_request call token body ≡ Err refusal → Plain refusal
unfolding stream_request
on_stream_plain stream.Create token body refusal e = one_of (setup_of token body) _ refusal e (setup_plain token body refusal) (λ setup made. absurd (cc))
on_stream_plain stream.Update token body refusal e = one_of (setup_of token body) _ refusal e (setup_plain token body refusal) (λ setup made. absurd (cc))
on_stream_plain stream.Info token body refusal e =
    one_of (fields_of body) _ refusal e (fields_plain body refusal)
    (λ fields named. one_of (token_name token) _ refusal named (name_plain token refusal) (λ name made. absurd (cc)))
on_stream_plain stream.Delete token body refusal e = one_of (token_name token) _ refusal e (name_plain token refusal) (λ name made. absurd (cc))
on_stream_plain stream.Purge token body refusal e =
    one_of (fields_of body) _ refusal e (fields_plain body refusal)
    (λ fields named. one_of (token_name token) _ refusal named (name_plain token refusal)
    (λ name read. one_of (purge_in fields) _ refusal read (purge_plain fields refusal) (λ purge made. absurd (cc))))
on_stream_plain stream.MsgGet token body refusal e =
    one_of (object_in body) _ refusal e (object_plain body refusal)
    (λ fields named. one_of (token_name token) _ refusal named (name_plain token refusal)
    (λ name read. one_of (message_in fields) _ refusal read (message_plain fields refusal) (λ by made. absurd (cc))))
on_stream_plain stream.MsgDelete token body refusal e =
    one_of (object_in body) _ refusal e (object_plain body refusal)
    (λ fields named. one_of (token_name token) _ refusal named (name_plain token refusal)
    (λ name read. one_of (sequence_in fields) _ refusal read (sequence_plain fields refusal) (λ seq made. absurd (cc))))
on_stream_plain stream.ConsumerNames token body refusal e = one_of (page_of token body) _ refusal e (page_plain token body refusal) (λ page made. absurd (cc))
on_stream_plain stream.ConsumerList token body refusal e = one_of (page_of token body) _ refusal e (page_plain token body refusal) (λ page made. absurd (cc))
on_stream_plain stream.ConsumerCreate token body refusal e =
    one_of (object_in body) _ refusal e (object_plain body refusal)
    (λ fields named. one_of (token_name token) _ refusal named (name_plain token refusal)
    (λ name read. one_of (settings_in [] fields) _ refusal read (settings_plain [] fields refusal) (λ settings made. told _ refusal made (record { ascii = refl }))))

some_is : {X : Type 0} (x y : X) → Some x ≡ Some y → x ≡ y
some_is x y e = cc

refused_on : (on_stream : Option (StreamCall × Bytes)) (on_consumer : Option (ConsumerCall × Tokens)) (body : Bytes) (refusal : ApiError)
    → or_on_consumer on_stream on_consumer body ≡ Some (Err refusal) → Plain refusal
refused_on (Some (call, token)) on_consumer body refusal e = on_stream_plain call token body refusal (some_is _ _ e)
refused_on None (Some (call, tokens)) body refusal e = consumer_plain call tokens body refusal (some_is _ _ e)
refused_on None None body refusal e = absurd (cc)

refused_by : (call : Option GeneralCall) (on_stream : Option (StreamCall × Bytes)) (on_consumer : Option (ConsumerCall × Tokens)) (body : Bytes) (refusal : ApiError)
    → or_on_stream call on_stream on_consumer body ≡ Some (Err refusal) → Plain refusal
refused_by (Some call) on_stream on_consumer body refusal e = general_plain call body refusal (some_is _ _ e)
refused_by None on_stream on_consumer body refusal e = refused_on on_stream on_consumer body refusal e

plain : (subject body : Bytes) (refusal : ApiError) → request_of subject body ≡ Some (Err refusal) → Plain refusal
unfolding request_of
plain subject body refusal e = refused_by (general_call subject) (stream_call subject) (consumer_call subject) body refusal e

pub refusal_utf8 : (subject body : Bytes) (refusal : ApiError) → request_of subject body ≡ Some (Err refusal) → IsUtf8 refusal.text
refusal_utf8 subject body refusal e = let is = plain subject body refusal e in IsUtf8-from_ascii refusal.text (λ i. ascii_at refusal.text i is.ascii)
