-- Worked examples of the calls on consumers.
use Rattle.std.specs.Prelude.{◌≡◌, true, false, [], Option, Some, None, Result, Ok, Err, codes, refl}
use Rattle.std.specs.Str.{is_utf8, chars}
use lib.Utf8.{encode}
use Rattle.serde_json.proofs.OnLiterals.{serde_json_on_literals}
use Rattle.js_base.specs.Bytes.{Bytes}
use Rattle.js_base.specs.declared.out.ApiError.{ApiError}
use Rattle.js_json.specs.Objects.{object_of}
use Rattle.js_json.specs.Fields.{flag_in, number_in, text_in as any_text_in, time_in, part_in, is_number as is_numeral, is_given}
use Rattle.js_model.specs.declared.consumer_config.AckPolicy.TheVariants.{Explicit}
use Rattle.js_model.specs.declared.consumer_config.DeliverPolicy.TheVariants.{All as FromAll}
use Rattle.js_model.specs.declared.consumer_config.ConsumerConfig.{ConsumerConfig}
use Rattle.js_model.specs.Refusals.{invalid_json, invalid_value, not_supported, name_mismatch}
use Rattle.consumer_config.specs.Refusals.{start_missing, durable_name_required}
use Rattle.consumer_config.specs.Table.{table}
use Rattle.consumer_config.specs.Reading.{standing, config_in as read_config, reading}
use Rattle.ack_parse.specs.Asks.{just, ask_in, natural_in, truth_in, object_in as ask_object_in, ask_of}
use Rattle.api_requests.specs.declared.request.ApiRequest.{ApiRequest}
use Rattle.api_requests.specs.declared.request.ApiRequest.TheVariants as requests
use Rattle.api_requests.specs.Fields.{number_in as offset_in, text_in, given_text_in}
use Rattle.api_requests.specs.Bodies.{object_in, token_name, page_of}
use Rattle.api_requests.specs.ConsumerCalls.{tokens_behind}
use Rattle.api_requests.specs.Consumers.{names_of, update_in, config_in, checked, settings_in, creation_of}
use Rattle.api_requests.specs.Requests.{stream_request, consumer_request, request_of}

-- every default
abbrev usual : ConsumerConfig
usual = record {
  ack_policy = Explicit;
  ack_wait = 30000000000;
  deliver_group = [];
  deliver_policy = FromAll;
  deliver_subject = [];
  description = [];
  filter_subject = [];
  idle_heartbeat = 0;
  max_ack_pending = Some 1000;
  max_deliver = None;
  max_waiting = 512;
  name = codes "W";
}

-- ---- making a consumer

abbrev create : Bytes → Option (Result ApiRequest ApiError)
create body = request_of (codes "$JS.API.CONSUMER.CREATE.S.W") body

create_usual : create (codes "{\"action\":\"\",\"config\":{\"durable_name\":\"W\"},\"stream_name\":\"S\"}") ≡ Some (Ok (requests.ConsumerCreate (codes "S") (codes "W") usual false))
unfolding request_of consumer_request tokens_behind token_name names_of object_in creation_of settings_in update_in config_in checked reading standing table read_config flag_in number_in any_text_in time_in part_in is_numeral is_given text_in given_text_in object_of serde_json_on_literals is_utf8 chars encode
create_usual = refl

create_update : create (codes "{\"action\":\"update\",\"config\":{\"durable_name\":\"W\"}}") ≡ Some (Ok (requests.ConsumerCreate (codes "S") (codes "W") usual true))
unfolding request_of consumer_request tokens_behind token_name names_of object_in creation_of settings_in update_in config_in checked reading standing table read_config flag_in number_in any_text_in time_in part_in is_numeral is_given text_in given_text_in object_of serde_json_on_literals is_utf8 chars encode
create_update = refl

-- the other subject
create_durable : request_of (codes "$JS.API.CONSUMER.DURABLE.CREATE.S.W") (codes "{\"action\":\"create\",\"config\":{\"durable_name\":\"W\"}}") ≡ Some (Ok (requests.ConsumerDurableCreate (codes "S") (codes "W") usual false))
unfolding request_of consumer_request tokens_behind token_name names_of object_in creation_of settings_in update_in config_in checked reading standing table read_config flag_in number_in any_text_in time_in part_in is_numeral is_given text_in given_text_in object_of serde_json_on_literals is_utf8 chars encode
create_durable = refl

-- a filter of several tokens
create_filtered : request_of (codes "$JS.API.CONSUMER.CREATE.S.W.a.*") (codes "{\"config\":{\"durable_name\":\"W\",\"filter_subject\":\"a.*\"}}") ≡ Some (Ok (requests.ConsumerCreate (codes "S") (codes "W") (record usual { filter_subject = codes "a.*" }) false))
unfolding request_of consumer_request tokens_behind token_name names_of object_in creation_of settings_in update_in config_in checked reading standing table read_config flag_in number_in any_text_in time_in part_in is_numeral is_given text_in given_text_in object_of serde_json_on_literals is_utf8 chars encode
create_filtered = refl

create_other_filter : request_of (codes "$JS.API.CONSUMER.CREATE.S.W.a.*") (codes "{\"config\":{\"durable_name\":\"W\"}}") ≡ Some (Err name_mismatch)
unfolding request_of consumer_request tokens_behind token_name names_of object_in creation_of settings_in update_in config_in checked reading standing table read_config flag_in number_in any_text_in time_in part_in is_numeral is_given text_in given_text_in object_of serde_json_on_literals is_utf8 chars encode
create_other_filter = refl

-- an empty body is no object
create_nothing : create [] ≡ Some (Err invalid_json)
unfolding request_of consumer_request tokens_behind token_name names_of object_in creation_of settings_in update_in config_in checked reading standing table read_config flag_in number_in any_text_in time_in part_in is_numeral is_given text_in given_text_in object_of serde_json_on_literals is_utf8 chars encode
create_nothing = refl

-- the names before the fields
create_no_name : request_of (codes "$JS.API.CONSUMER.CREATE.S.*") (codes "{\"action\":\"none\"}") ≡ Some (Err (invalid_value (codes "name")))
unfolding request_of consumer_request tokens_behind token_name names_of object_in creation_of settings_in update_in config_in checked reading standing table read_config flag_in number_in any_text_in time_in part_in is_numeral is_given text_in given_text_in object_of serde_json_on_literals is_utf8 chars encode
create_no_name = refl

-- the fields in their order
create_action : create (codes "{\"action\":\"none\",\"config\":{\"ack_wait\":-1}}") ≡ Some (Err (invalid_value (codes "action")))
unfolding request_of consumer_request tokens_behind token_name names_of object_in creation_of settings_in update_in config_in checked reading standing table read_config flag_in number_in any_text_in time_in part_in is_numeral is_given text_in given_text_in object_of serde_json_on_literals is_utf8 chars encode
create_action = refl

create_config : create (codes "{\"config\":7,\"stream_name\":7}") ≡ Some (Err (invalid_value (codes "config")))
unfolding request_of consumer_request tokens_behind token_name names_of object_in creation_of settings_in update_in config_in checked reading standing table read_config flag_in number_in any_text_in time_in part_in is_numeral is_given text_in given_text_in object_of serde_json_on_literals is_utf8 chars encode
create_config = refl

create_ack_wait : create (codes "{\"config\":{\"ack_wait\":-1},\"stream_name\":7}") ≡ Some (Err (invalid_value (codes "ack_wait")))
unfolding request_of consumer_request tokens_behind token_name names_of object_in creation_of settings_in update_in config_in checked reading standing table read_config flag_in number_in any_text_in time_in part_in is_numeral is_given text_in given_text_in object_of serde_json_on_literals is_utf8 chars encode
create_ack_wait = refl

create_left_out : create (codes "{\"config\":{\"headers_only\":true},\"stream_name\":7}") ≡ Some (Err (not_supported (codes "headers_only")))
unfolding request_of consumer_request tokens_behind token_name names_of object_in creation_of settings_in update_in config_in checked reading standing table read_config flag_in number_in any_text_in time_in part_in is_numeral is_given text_in given_text_in object_of serde_json_on_literals is_utf8 chars encode
create_left_out = refl

-- what is missing comes behind all fields
create_stream : create (codes "{\"config\":{\"deliver_policy\":\"by_start_sequence\"},\"stream_name\":7}") ≡ Some (Err (invalid_value (codes "stream_name")))
unfolding request_of consumer_request tokens_behind token_name names_of object_in creation_of settings_in update_in config_in checked reading standing table read_config flag_in number_in any_text_in time_in part_in is_numeral is_given text_in given_text_in object_of serde_json_on_literals is_utf8 chars encode
create_stream = refl

create_no_start : create (codes "{\"config\":{\"deliver_policy\":\"by_start_sequence\"},\"stream_name\":\"T\"}") ≡ Some (Err (start_missing (codes "opt_start_seq")))
unfolding request_of consumer_request tokens_behind token_name names_of object_in creation_of settings_in update_in config_in checked reading standing table read_config flag_in number_in any_text_in time_in part_in is_numeral is_given text_in given_text_in object_of serde_json_on_literals is_utf8 chars encode
create_no_start = refl

-- an absent configuration has no durable name
create_no_config : create (codes "{\"stream_name\":\"T\"}") ≡ Some (Err durable_name_required)
unfolding request_of consumer_request tokens_behind token_name names_of object_in creation_of settings_in update_in config_in checked reading standing table read_config flag_in number_in any_text_in time_in part_in is_numeral is_given text_in given_text_in object_of serde_json_on_literals is_utf8 chars encode
create_no_config = refl

-- an empty name is another one
create_other_stream : create (codes "{\"config\":{\"durable_name\":\"W\"},\"stream_name\":\"\"}") ≡ Some (Err name_mismatch)
unfolding request_of consumer_request tokens_behind token_name names_of object_in creation_of settings_in update_in config_in checked reading standing table read_config flag_in number_in any_text_in time_in part_in is_numeral is_given text_in given_text_in object_of serde_json_on_literals is_utf8 chars encode
create_other_stream = refl

create_other_name : create (codes "{\"config\":{\"durable_name\":\"V\"},\"stream_name\":\"S\"}") ≡ Some (Err name_mismatch)
unfolding request_of consumer_request tokens_behind token_name names_of object_in creation_of settings_in update_in config_in checked reading standing table read_config flag_in number_in any_text_in time_in part_in is_numeral is_given text_in given_text_in object_of serde_json_on_literals is_utf8 chars encode
create_other_name = refl

-- ---- making one that the subject does not name

abbrev create_unnamed : Bytes → Option (Result ApiRequest ApiError)
create_unnamed body = request_of (codes "$JS.API.CONSUMER.CREATE.S") body

unnamed_nothing : create_unnamed [] ≡ Some (Err invalid_json)
unfolding request_of stream_request token_name object_in settings_in update_in config_in checked reading standing table flag_in number_in any_text_in time_in part_in is_numeral is_given text_in given_text_in object_of serde_json_on_literals is_utf8 chars encode
unnamed_nothing = refl

unnamed_no_stream : request_of (codes "$JS.API.CONSUMER.CREATE.*") (codes "{\"action\":\"none\"}") ≡ Some (Err (invalid_value (codes "name")))
unfolding request_of stream_request token_name object_in settings_in update_in config_in checked reading standing table flag_in number_in any_text_in time_in part_in is_numeral is_given text_in given_text_in object_of serde_json_on_literals is_utf8 chars encode
unnamed_no_stream = refl

unnamed_left_out : create_unnamed (codes "{\"config\":{\"headers_only\":true}}") ≡ Some (Err (not_supported (codes "headers_only")))
unfolding request_of stream_request token_name object_in settings_in update_in config_in checked reading standing table flag_in number_in any_text_in time_in part_in is_numeral is_given text_in given_text_in object_of serde_json_on_literals is_utf8 chars encode
unnamed_left_out = refl

unnamed_usual : create_unnamed (codes "{\"config\":{\"deliver_subject\":\"d\"},\"stream_name\":\"S\"}") ≡ Some (Err durable_name_required)
unfolding request_of stream_request token_name object_in settings_in update_in config_in checked reading standing table flag_in number_in any_text_in time_in part_in is_numeral is_given text_in given_text_in object_of serde_json_on_literals is_utf8 chars encode
unnamed_usual = refl

-- each durable name is another one, also the stream's
unnamed_durable : create_unnamed (codes "{\"config\":{\"durable_name\":\"S\"}}") ≡ Some (Err name_mismatch)
unfolding request_of stream_request token_name object_in settings_in update_in config_in checked reading standing table flag_in number_in any_text_in time_in part_in is_numeral is_given text_in given_text_in object_of serde_json_on_literals is_utf8 chars encode
unnamed_durable = refl

-- ---- a consumer that is there

-- the body is not looked at
info : request_of (codes "$JS.API.CONSUMER.INFO.S.W") (codes "[") ≡ Some (Ok (requests.ConsumerInfo (codes "S") (codes "W")))
unfolding request_of consumer_request tokens_behind token_name names_of
info = refl

delete : request_of (codes "$JS.API.CONSUMER.DELETE.S.W") [] ≡ Some (Ok (requests.ConsumerDelete (codes "S") (codes "W")))
unfolding request_of consumer_request tokens_behind token_name names_of
delete = refl

info_no_name : request_of (codes "$JS.API.CONSUMER.INFO..W") [] ≡ Some (Err (invalid_value (codes "name")))
unfolding request_of consumer_request tokens_behind token_name names_of
info_no_name = refl

names : request_of (codes "$JS.API.CONSUMER.NAMES.S") (codes "{\"offset\":5}") ≡ Some (Ok (requests.ConsumerNames (codes "S") 5))
unfolding request_of stream_request page_of token_name object_in offset_in number_in object_of serde_json_on_literals is_utf8 chars encode
names = refl

list : request_of (codes "$JS.API.CONSUMER.LIST.S") [] ≡ Some (Ok (requests.ConsumerList (codes "S") 0))
unfolding request_of stream_request page_of token_name object_in offset_in number_in object_of serde_json_on_literals is_utf8 chars encode
list = refl

-- ---- questions for messages

next_some : request_of (codes "$JS.API.CONSUMER.MSG.NEXT.S.W") (codes "5") ≡ Some (Ok (requests.ConsumerMsgNext (codes "S") (codes "W") (Some (just 5))))
unfolding request_of consumer_request tokens_behind ask_of ask_in natural_in truth_in ask_object_in number_in flag_in object_of serde_json_on_literals is_utf8 chars encode
next_some = refl

next_object : request_of (codes "$JS.API.CONSUMER.MSG.NEXT.S.W") (codes "{\"batch\":2,\"no_wait\":true}") ≡ Some (Ok (requests.ConsumerMsgNext (codes "S") (codes "W") (Some (record (just 2) { no_wait = true }))))
unfolding request_of consumer_request tokens_behind ask_of ask_in natural_in truth_in ask_object_in number_in flag_in object_of serde_json_on_literals is_utf8 chars encode
next_object = refl

-- no names, and a body of no form
next_wrong : request_of (codes "$JS.API.CONSUMER.MSG.NEXT.*.>") (codes "-1") ≡ Some (Ok (requests.ConsumerMsgNext (codes "*") (codes ">") None))
unfolding request_of consumer_request tokens_behind ask_of ask_in natural_in truth_in ask_object_in number_in flag_in object_of serde_json_on_literals is_utf8 chars encode
next_wrong = refl

-- ---- what is no call

durable_one_token : request_of (codes "$JS.API.CONSUMER.DURABLE.CREATE.S") [] ≡ None
unfolding request_of tokens_behind
durable_one_token = refl

durable_filter : request_of (codes "$JS.API.CONSUMER.DURABLE.CREATE.S.W.a") [] ≡ None
unfolding request_of tokens_behind
durable_filter = refl

next_more : request_of (codes "$JS.API.CONSUMER.MSG.NEXT.S.W.a") [] ≡ None
unfolding request_of tokens_behind
next_more = refl
