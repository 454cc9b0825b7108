-- Worked examples of the calls on stored messages.
use Rattle.std.specs.Prelude.{◌≡◌, [], Option, Some, None, Result, Ok, Err, codes, refl}
use Rattle.std.specs.Str.{is_utf8, chars}
use lib.Utf8.{encode}
use Rattle.serde_json.proofs.OnLiterals.{serde_json_on_literals}
use Rattle.js_base.specs.Bytes.{Bytes}
use Rattle.js_base.specs.declared.out.ApiError.{ApiError}
use Rattle.js_json.specs.Objects.{object_of}
use Rattle.js_json.specs.Fields.{number_in as integer_in, text_in as any_text_in, is_given}
use Rattle.js_model.specs.declared.event.GetBy.TheVariants.{Seq, LastBySubject}
use Rattle.js_model.specs.Refusals.{invalid_json, invalid_value, not_supported}
use Rattle.api_requests.specs.declared.request.ApiRequest.{ApiRequest}
use Rattle.api_requests.specs.declared.request.ApiRequest.TheVariants as requests
use Rattle.api_requests.specs.Fields.{number_in, positive_in, text_in, pattern_in, subject_in}
use Rattle.api_requests.specs.ConsumerCalls.{tokens_behind}
use Rattle.api_requests.specs.Bodies.{object_in, token_name}
use Rattle.api_requests.specs.Messages.{purge_in, message_in, sequence_in}
use Rattle.api_requests.specs.Requests.{stream_request, request_of}

-- ---- purges

abbrev purge : Bytes → Option (Result ApiRequest ApiError)
purge body = request_of (codes "$JS.API.STREAM.PURGE.S") body

purge_all : purge [] ≡ Some (Ok (requests.StreamPurge (codes "S") [] None None))
unfolding request_of stream_request token_name object_in purge_in positive_in number_in pattern_in text_in integer_in any_text_in object_of serde_json_on_literals is_utf8 chars encode
purge_all = refl

purge_kept : purge (codes "{\"keep\":1}") ≡ Some (Ok (requests.StreamPurge (codes "S") [] None (Some 1)))
unfolding request_of stream_request token_name object_in purge_in positive_in number_in pattern_in text_in integer_in any_text_in object_of serde_json_on_literals is_utf8 chars encode
purge_kept = refl

purge_below : purge (codes "{\"filter\":\"a.*\",\"seq\":3}") ≡ Some (Ok (requests.StreamPurge (codes "S") (codes "a.*") (Some 3) None))
unfolding request_of stream_request token_name object_in purge_in positive_in number_in pattern_in text_in integer_in any_text_in object_of serde_json_on_literals is_utf8 chars encode
purge_below = refl

-- both are refused by the name of the one
purge_both : purge (codes "{\"keep\":1,\"seq\":3}") ≡ Some (Err (invalid_value (codes "keep")))
unfolding request_of stream_request token_name object_in purge_in positive_in number_in pattern_in text_in integer_in any_text_in object_of serde_json_on_literals is_utf8 chars encode
purge_both = refl

-- 0 and null count as absent, and so does an empty filter
purge_zero : purge (codes "{\"filter\":\"\",\"keep\":0,\"seq\":3}") ≡ Some (Ok (requests.StreamPurge (codes "S") [] (Some 3) None))
unfolding request_of stream_request token_name object_in purge_in positive_in number_in pattern_in text_in integer_in any_text_in object_of serde_json_on_literals is_utf8 chars encode
purge_zero = refl

purge_null : purge (codes "{\"filter\":null,\"keep\":2,\"seq\":null}") ≡ Some (Ok (requests.StreamPurge (codes "S") [] None (Some 2)))
unfolding request_of stream_request token_name object_in purge_in positive_in number_in pattern_in text_in integer_in any_text_in object_of serde_json_on_literals is_utf8 chars encode
purge_null = refl

purge_no_pattern : purge (codes "{\"filter\":\"a..b\",\"keep\":-1}") ≡ Some (Err (invalid_value (codes "filter")))
unfolding request_of stream_request token_name object_in purge_in positive_in number_in pattern_in text_in integer_in any_text_in object_of serde_json_on_literals is_utf8 chars encode
purge_no_pattern = refl

purge_negative : purge (codes "{\"keep\":-1,\"seq\":-1}") ≡ Some (Err (invalid_value (codes "keep")))
unfolding request_of stream_request token_name object_in purge_in positive_in number_in pattern_in text_in integer_in any_text_in object_of serde_json_on_literals is_utf8 chars encode
purge_negative = refl

-- if the one field is itself wrong, the rule between the two counts as kept
purge_wrong_seq : purge (codes "{\"keep\":1,\"seq\":\"3\"}") ≡ Some (Err (invalid_value (codes "seq")))
unfolding request_of stream_request token_name object_in purge_in positive_in number_in pattern_in text_in integer_in any_text_in object_of serde_json_on_literals is_utf8 chars encode
purge_wrong_seq = refl

purge_too_great : purge (codes "{\"seq\":4611686018427387904}") ≡ Some (Err (invalid_value (codes "seq")))
unfolding request_of stream_request token_name object_in purge_in positive_in number_in pattern_in text_in integer_in any_text_in object_of serde_json_on_literals is_utf8 chars encode
purge_too_great = refl

purge_greatest : purge (codes "{\"seq\":4611686018427387903}") ≡ Some (Ok (requests.StreamPurge (codes "S") [] (Some 4611686018427387903) None))
unfolding request_of stream_request token_name object_in purge_in positive_in number_in pattern_in text_in integer_in any_text_in object_of serde_json_on_literals is_utf8 chars encode
purge_greatest = refl

-- the body is looked at before the name, and the name before the fields
purge_no_json : request_of (codes "$JS.API.STREAM.PURGE.*") (codes "[]") ≡ Some (Err invalid_json)
unfolding request_of stream_request token_name object_in purge_in positive_in number_in pattern_in text_in integer_in any_text_in object_of serde_json_on_literals is_utf8 chars encode
purge_no_json = refl

purge_no_name : request_of (codes "$JS.API.STREAM.PURGE.*") (codes "{\"keep\":-1}") ≡ Some (Err (invalid_value (codes "name")))
unfolding request_of stream_request token_name object_in purge_in positive_in number_in pattern_in text_in integer_in any_text_in object_of serde_json_on_literals is_utf8 chars encode
purge_no_name = refl

-- ---- reading one message

abbrev get : Bytes → Option (Result ApiRequest ApiError)
get body = request_of (codes "$JS.API.STREAM.MSG.GET.S") body

get_seq : get (codes "{\"seq\":7}") ≡ Some (Ok (requests.StreamMsgGet (codes "S") (Seq 7)))
unfolding request_of stream_request token_name object_in message_in subject_in number_in text_in integer_in any_text_in is_given object_of serde_json_on_literals is_utf8 chars encode
get_seq = refl

-- 0 is given
get_zero : get (codes "{\"last_by_subj\":\"\",\"next_by_subj\":\"\",\"seq\":0,\"start_time\":null}") ≡ Some (Ok (requests.StreamMsgGet (codes "S") (Seq 0)))
unfolding request_of stream_request token_name object_in message_in subject_in number_in text_in integer_in any_text_in is_given object_of serde_json_on_literals is_utf8 chars encode
get_zero = refl

get_last : get (codes "{\"last_by_subj\":\"a.b\"}") ≡ Some (Ok (requests.StreamMsgGet (codes "S") (LastBySubject (codes "a.b"))))
unfolding request_of stream_request token_name object_in message_in subject_in number_in text_in integer_in any_text_in is_given object_of serde_json_on_literals is_utf8 chars encode
get_last = refl

get_both : get (codes "{\"last_by_subj\":\"a.b\",\"seq\":0}") ≡ Some (Err (invalid_value (codes "seq")))
unfolding request_of stream_request token_name object_in message_in subject_in number_in text_in integer_in any_text_in is_given object_of serde_json_on_literals is_utf8 chars encode
get_both = refl

get_neither : get (codes "{\"start_time\":\"2023-11-14T22:13:20Z\"}") ≡ Some (Err (invalid_value (codes "seq")))
unfolding request_of stream_request token_name object_in message_in subject_in number_in text_in integer_in any_text_in is_given object_of serde_json_on_literals is_utf8 chars encode
get_neither = refl

get_negative : get (codes "{\"seq\":-1}") ≡ Some (Err (invalid_value (codes "seq")))
unfolding request_of stream_request token_name object_in message_in subject_in number_in text_in integer_in any_text_in is_given object_of serde_json_on_literals is_utf8 chars encode
get_negative = refl

get_wildcard : get (codes "{\"last_by_subj\":\"a.*\",\"next_by_subj\":\"b\"}") ≡ Some (Err (invalid_value (codes "last_by_subj")))
unfolding request_of stream_request token_name object_in message_in subject_in number_in text_in integer_in any_text_in is_given object_of serde_json_on_literals is_utf8 chars encode
get_wildcard = refl

get_next : get (codes "{\"next_by_subj\":\"b\",\"seq\":-1}") ≡ Some (Err (not_supported (codes "next_by_subj")))
unfolding request_of stream_request token_name object_in message_in subject_in number_in text_in integer_in any_text_in is_given object_of serde_json_on_literals is_utf8 chars encode
get_next = refl

get_since : get (codes "{\"seq\":1,\"start_time\":5}") ≡ Some (Err (not_supported (codes "start_time")))
unfolding request_of stream_request token_name object_in message_in subject_in number_in text_in integer_in any_text_in is_given object_of serde_json_on_literals is_utf8 chars encode
get_since = refl

-- an empty body is no object
get_nothing : get [] ≡ Some (Err invalid_json)
unfolding request_of stream_request token_name object_in message_in subject_in number_in text_in integer_in any_text_in is_given object_of serde_json_on_literals is_utf8 chars encode
get_nothing = refl

-- ---- deleting one message

abbrev delete : Bytes → Option (Result ApiRequest ApiError)
delete body = request_of (codes "$JS.API.STREAM.MSG.DELETE.S") body

delete_seq : delete (codes "{\"no_erase\":7,\"seq\":0}") ≡ Some (Ok (requests.StreamMsgDelete (codes "S") 0))
unfolding request_of stream_request token_name object_in sequence_in number_in integer_in object_of serde_json_on_literals is_utf8 chars
delete_seq = refl

delete_without : delete (codes "{\"no_erase\":true}") ≡ Some (Err (invalid_value (codes "seq")))
unfolding request_of stream_request token_name object_in sequence_in number_in integer_in object_of serde_json_on_literals is_utf8 chars
delete_without = refl

delete_fraction : delete (codes "{\"seq\":1.5}") ≡ Some (Err (invalid_value (codes "seq")))
unfolding request_of stream_request token_name object_in sequence_in number_in integer_in object_of serde_json_on_literals is_utf8 chars
delete_fraction = refl

delete_nothing : delete [] ≡ Some (Err invalid_json)
unfolding request_of stream_request token_name object_in sequence_in number_in integer_in object_of serde_json_on_literals is_utf8 chars
delete_nothing = refl

-- ---- what is no call

more_tokens : request_of (codes "$JS.API.STREAM.MSG.GET.S.T") (codes "{\"seq\":7}") ≡ None
unfolding request_of tokens_behind
more_tokens = refl

no_message_call : request_of (codes "$JS.API.STREAM.MSG.S") (codes "{\"seq\":7}") ≡ None
unfolding request_of tokens_behind
no_message_call = refl
