-- The names of the calls that are read, which their answers show, by the JetStream API reference.
use Rattle.std.specs.Prelude.{[], Option, Some, None}
use Rattle.js_base.specs.Bytes.{Bytes}
use Rattle.api_calls.specs.declared.call.ApiCall.{ApiCall}
use Rattle.api_calls.specs.declared.call.ApiCall.TheVariants as calls
use Rattle.api_calls.specs.Names.{name_of}
use Rattle.api_requests.specs.declared.call.GeneralCall.{GeneralCall}
use Rattle.api_requests.specs.declared.call.GeneralCall.TheVariants as general
use Rattle.api_requests.specs.declared.call.StreamCall.{StreamCall}
use Rattle.api_requests.specs.declared.call.StreamCall.TheVariants as stream
use Rattle.api_requests.specs.declared.consumer_call.ConsumerCall.{ConsumerCall}
use Rattle.api_requests.specs.declared.consumer_call.ConsumerCall.TheVariants as consumer
use Rattle.api_requests.specs.Calls.{general_call, stream_call}
use Rattle.api_requests.specs.ConsumerCalls.{Tokens, consumer_call}

abbrev pub api_general : GeneralCall → ApiCall
api_general general.AccountInfo = calls.AccountInfo
api_general general.StreamNames = calls.StreamNames
api_general general.StreamList = calls.StreamList

abbrev pub api_on_stream : StreamCall → ApiCall
api_on_stream stream.Create = calls.StreamCreate
api_on_stream stream.Update = calls.StreamUpdate
api_on_stream stream.Info = calls.StreamInfo
api_on_stream stream.Delete = calls.StreamDelete
api_on_stream stream.Purge = calls.StreamPurge
api_on_stream stream.MsgGet = calls.StreamMsgGet
api_on_stream stream.MsgDelete = calls.StreamMsgDelete
api_on_stream stream.ConsumerNames = calls.ConsumerNames
api_on_stream stream.ConsumerList = calls.ConsumerList
api_on_stream stream.ConsumerCreate = calls.ConsumerCreate

-- all creations have the same answer; a question for messages has none
abbrev pub api_on_consumer : ConsumerCall → Option ApiCall
api_on_consumer consumer.Create = Some calls.ConsumerCreate
api_on_consumer consumer.DurableCreate = Some calls.ConsumerCreate
api_on_consumer consumer.Info = Some calls.ConsumerInfo
api_on_consumer consumer.Delete = Some calls.ConsumerDelete
api_on_consumer consumer.MsgNext = None

abbrev pub name_or_empty : Option ApiCall → Bytes
name_or_empty None = []
name_or_empty (Some call) = name_of call

abbrev pub name_on_consumer : Option (ConsumerCall × Tokens) → Bytes
name_on_consumer None = []
name_on_consumer (Some call) = name_or_empty (api_on_consumer call.0)

abbrev pub name_on_stream : Option (StreamCall × Bytes) → Option (ConsumerCall × Tokens) → Bytes
name_on_stream (Some call) on_consumer = name_of (api_on_stream call.0)
name_on_stream None on_consumer = name_on_consumer on_consumer

abbrev pub name_of_any : Option GeneralCall → Option (StreamCall × Bytes) → Option (ConsumerCall × Tokens) → Bytes
name_of_any (Some call) on_stream on_consumer = name_of (api_general call)
name_of_any None on_stream on_consumer = name_on_stream on_stream on_consumer

-- the name that the answer of the call shows which the subject is, empty if it is no call, or one whose answer shows none
unfoldable pub call_name : Bytes → Bytes
call_name subject = name_of_any (general_call subject) (stream_call subject) (consumer_call subject)
