-- The texts of the refusals of the parts of calls are ASCII.
use Rattle.std.proofs.Common.{◌≡◌, Result, Ok, Err, codes, refl}
use Rattle.serde_json.specs.Data.{Members}
use Rattle.js_base.specs.Bytes.{Bytes}
use Rattle.js_base.specs.Names.{name_of}
use Rattle.js_base.specs.declared.name.NameFault.{NameFault}
use Rattle.js_base.specs.declared.out.ApiError.{ApiError}
use Rattle.js_json.specs.declared.fault.JsonFault.{JsonFault}
use Rattle.js_json.specs.Objects.{object_of}
use Rattle.api_requests.specs.Fields.{number_in, pattern_in}
use Rattle.api_requests.specs.Bodies.{or_braces, or_invalid_json, object_in, fields_of, or_no_name, token_name, listing_of, page_of}
use Rattle.api_requests.proofs.Plain.{Plain, told, one_of}
use Rattle.api_requests.proofs.PlainFields.{number_plain, pattern_plain}

fields_by : (read : Result Members JsonFault) (refusal : ApiError) → or_invalid_json read ≡ Err refusal → Plain refusal
fields_by (Ok fields) refusal e = absurd (cc)
fields_by (Err fault) refusal e = told _ refusal e (record { ascii = refl })

pub object_plain : (body : Bytes) (refusal : ApiError) → object_in body ≡ Err refusal → Plain refusal
unfolding object_in
object_plain body refusal e = fields_by (object_of body) refusal e

pub fields_plain : (body : Bytes) (refusal : ApiError) → fields_of body ≡ Err refusal → Plain refusal
fields_plain body refusal e = object_plain (or_braces body) refusal e

name_by : (read : Result Bytes NameFault) (refusal : ApiError) → or_no_name read ≡ Err refusal → Plain refusal
name_by (Ok name) refusal e = absurd (cc)
name_by (Err fault) refusal e = told _ refusal e (record { ascii = refl })

pub name_plain : (token : Bytes) (refusal : ApiError) → token_name token ≡ Err refusal → Plain refusal
unfolding token_name
name_plain token refusal e = name_by (name_of token) refusal e

pub listing_plain : (body : Bytes) (refusal : ApiError) → listing_of body ≡ Err refusal → Plain refusal
unfolding listing_of
listing_plain body refusal e =
    one_of (fields_of body) _ refusal e (fields_plain body refusal)
    (λ fields placed. one_of (number_in (codes "offset") fields) _ refusal placed (number_plain _ fields refusal refl)
    (λ offset matched. one_of (pattern_in (codes "subject") fields) _ refusal matched (pattern_plain _ fields refusal refl) (λ subject made. absurd (cc))))

pub page_plain : (token body : Bytes) (refusal : ApiError) → page_of token body ≡ Err refusal → Plain refusal
unfolding page_of
page_plain token body refusal e =
    one_of (fields_of body) _ refusal e (fields_plain body refusal)
    (λ fields named. one_of (token_name token) _ refusal named (name_plain token refusal)
    (λ name placed. one_of (number_in (codes "offset") fields) _ refusal placed (number_plain _ fields refusal refl) (λ offset made. absurd (cc))))
