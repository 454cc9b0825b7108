-- The subjects of the calls that are read, by the JetStream API reference.
use Rattle.std.specs.Prelude.{codes}
use Rattle.js_base.specs.Bytes.{Bytes}
use Rattle.api_requests.specs.declared.call.GeneralCall.{GeneralCall}
use Rattle.api_requests.specs.declared.call.GeneralCall.TheVariants as general
use Rattle.api_requests.specs.declared.call.StreamCall.{StreamCall}
use Rattle.api_requests.specs.declared.call.StreamCall.TheVariants as stream
use Rattle.api_requests.specs.declared.consumer_call.ConsumerCall.{ConsumerCall}
use Rattle.api_requests.specs.declared.consumer_call.ConsumerCall.TheVariants as consumer

-- the subject of a call on no stream of its own
abbrev pub general_words : GeneralCall → Bytes
general_words general.AccountInfo = codes "$JS.API.INFO"
general_words general.StreamNames = codes "$JS.API.STREAM.NAMES"
general_words general.StreamList = codes "$JS.API.STREAM.LIST"

-- what stands before the stream's token
abbrev pub stream_words : StreamCall → Bytes
stream_words stream.Create = codes "$JS.API.STREAM.CREATE."
stream_words stream.Update = codes "$JS.API.STREAM.UPDATE."
stream_words stream.Info = codes "$JS.API.STREAM.INFO."
stream_words stream.Delete = codes "$JS.API.STREAM.DELETE."
stream_words stream.Purge = codes "$JS.API.STREAM.PURGE."
stream_words stream.MsgGet = codes "$JS.API.STREAM.MSG.GET."
stream_words stream.MsgDelete = codes "$JS.API.STREAM.MSG.DELETE."
stream_words stream.ConsumerNames = codes "$JS.API.CONSUMER.NAMES."
stream_words stream.ConsumerList = codes "$JS.API.CONSUMER.LIST."
stream_words stream.ConsumerCreate = codes "$JS.API.CONSUMER.CREATE."

-- what stands before the tokens of a stream and of its consumer
abbrev pub consumer_words : ConsumerCall → Bytes
consumer_words consumer.Create = codes "$JS.API.CONSUMER.CREATE."
consumer_words consumer.DurableCreate = codes "$JS.API.CONSUMER.DURABLE.CREATE."
consumer_words consumer.Info = codes "$JS.API.CONSUMER.INFO."
consumer_words consumer.Delete = codes "$JS.API.CONSUMER.DELETE."
consumer_words consumer.MsgNext = codes "$JS.API.CONSUMER.MSG.NEXT."
