-- What a call of the API asks for, by its subject and its body, after the JetStream API reference. The refusals come in this order: the body is no
-- JSON object, a name in the subject is none, then each field in the order of its key, then what a configuration lacks, and then another name or filter.
use Rattle.std.specs.Prelude.{[], Option, Some, None, option_map, Result, Ok, Err}
use Rattle.js_base.specs.Bytes.{Bytes}
use Rattle.js_base.specs.declared.out.ApiError.{ApiError}
use Rattle.api_requests.specs.declared.call.GeneralCall.{GeneralCall}
use Rattle.api_requests.specs.declared.call.GeneralCall.TheVariants as general
use Rattle.api_requests.specs.declared.call.StreamCall.{StreamCall}
use Rattle.api_requests.specs.declared.call.StreamCall.TheVariants as stream
use Rattle.api_requests.specs.declared.consumer_call.ConsumerCall.{ConsumerCall}
use Rattle.api_requests.specs.declared.consumer_call.ConsumerCall.TheVariants as consumer
use Rattle.api_requests.specs.declared.request.ApiRequest.{ApiRequest}
use Rattle.api_requests.specs.declared.request.ApiRequest.TheVariants as requests
use Rattle.ack_parse.specs.Asks.{ask_of}
use Rattle.js_model.specs.Refusals.{name_mismatch}
use Rattle.api_requests.specs.Calls.{general_call, stream_call}
use Rattle.api_requests.specs.ConsumerCalls.{Tokens, consumer_call}
use Rattle.api_requests.specs.Steps.{◌>>=◌}
use Rattle.api_requests.specs.Bodies.{object_in, fields_of, token_name, listing_of, setup_of, page_of}
use Rattle.api_requests.specs.Messages.{purge_in, message_in, sequence_in}
use Rattle.api_requests.specs.Consumers.{names_of, settings_in, creation_of}

-- the body of a question for the account is not looked at
unfoldable pub general_request : GeneralCall → Bytes → Result ApiRequest ApiError
general_request general.AccountInfo body = Ok requests.AccountInfo
general_request general.StreamNames body = do
  listing ← listing_of body
  Ok (requests.StreamNames listing.0 listing.1)
general_request general.StreamList body = do
  listing ← listing_of body
  Ok (requests.StreamList listing.0 listing.1)

-- The body of a creation or a change is the configuration, also an empty one; that of a question is an object without fields of its own; and that of a
-- deletion is not looked at. A purge may have an empty body, and the calls on one message, which need a field, may not. A creation that names no
-- consumer makes none: its body is read as that of a consumer with the empty name, which no durable name is.
unfoldable pub stream_request : StreamCall → Bytes → Bytes → Result ApiRequest ApiError
stream_request stream.Create token body = do
  setup ← setup_of token body
  Ok (requests.StreamCreate setup.0 setup.1)
stream_request stream.Update token body = do
  setup ← setup_of token body
  Ok (requests.StreamUpdate setup.0 setup.1)
stream_request stream.Info token body = do
  _ ← fields_of body
  name ← token_name token
  Ok (requests.StreamInfo name)
stream_request stream.Delete token body = do
  name ← token_name token
  Ok (requests.StreamDelete name)
stream_request stream.Purge token body = do
  fields ← fields_of body
  name ← token_name token
  purge ← purge_in fields
  Ok (requests.StreamPurge name purge.filter purge.seq purge.keep)
stream_request stream.MsgGet token body = do
  fields ← object_in body
  name ← token_name token
  by ← message_in fields
  Ok (requests.StreamMsgGet name by)
stream_request stream.MsgDelete token body = do
  fields ← object_in body
  name ← token_name token
  seq ← sequence_in fields
  Ok (requests.StreamMsgDelete name seq)
stream_request stream.ConsumerNames token body = do
  page ← page_of token body
  Ok (requests.ConsumerNames page.0 page.1)
stream_request stream.ConsumerList token body = do
  page ← page_of token body
  Ok (requests.ConsumerList page.0 page.1)
stream_request stream.ConsumerCreate token body = do
  fields ← object_in body
  _ ← token_name token
  _ ← settings_in [] fields
  Err name_mismatch

-- The bodies of a question for a consumer and of its deletion are not looked at. A question for messages is never refused: its tokens may be no names,
-- and its body of no form.
unfoldable pub consumer_request : ConsumerCall → Tokens → Bytes → Result ApiRequest ApiError
consumer_request consumer.Create tokens body = do
  made ← creation_of tokens body
  Ok (requests.ConsumerCreate made.stream made.consumer made.config made.update)
consumer_request consumer.DurableCreate tokens body = do
  made ← creation_of tokens body
  Ok (requests.ConsumerDurableCreate made.stream made.consumer made.config made.update)
consumer_request consumer.Info tokens body = do
  names ← names_of tokens
  Ok (requests.ConsumerInfo names.0 names.1)
consumer_request consumer.Delete tokens body = do
  names ← names_of tokens
  Ok (requests.ConsumerDelete names.0 names.1)
consumer_request consumer.MsgNext tokens body = Ok (requests.ConsumerMsgNext tokens.stream tokens.consumer (ask_of body))

abbrev pub or_on_consumer : Option (StreamCall × Bytes) → Option (ConsumerCall × Tokens) → Bytes → Option (Result ApiRequest ApiError)
or_on_consumer (Some call) on_consumer body = Some (stream_request call.0 call.1 body)
or_on_consumer None on_consumer body = option_map (λ x. consumer_request x.0 x.1 body) on_consumer

abbrev pub or_on_stream : Option GeneralCall → Option (StreamCall × Bytes) → Option (ConsumerCall × Tokens) → Bytes → Option (Result ApiRequest ApiError)
or_on_stream (Some call) on_stream on_consumer body = Some (general_request call body)
or_on_stream None on_stream on_consumer body = or_on_consumer on_stream on_consumer body

-- the request, or its refusal; none if the subject is no call
unfoldable pub request_of : Bytes → Bytes → Option (Result ApiRequest ApiError)
request_of subject body = or_on_stream (general_call subject) (stream_call subject) (consumer_call subject) body
