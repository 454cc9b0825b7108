-- The names of the calls of the JetStream API, which the types of their answers show, by the JetStream API reference.
use Rattle.std.specs.Prelude.{codes}
use Rattle.js_base.specs.Bytes.{Bytes}
use Rattle.api_calls.specs.declared.call.ApiCall.{ApiCall}
use Rattle.api_calls.specs.declared.call.ApiCall.TheVariants as calls

abbrev pub name_of : ApiCall → Bytes
name_of calls.AccountInfo = codes "account_info"
name_of calls.StreamCreate = codes "stream_create"
name_of calls.StreamUpdate = codes "stream_update"
name_of calls.StreamInfo = codes "stream_info"
name_of calls.StreamDelete = codes "stream_delete"
name_of calls.StreamPurge = codes "stream_purge"
name_of calls.StreamNames = codes "stream_names"
name_of calls.StreamList = codes "stream_list"
name_of calls.StreamMsgGet = codes "stream_msg_get"
name_of calls.StreamMsgDelete = codes "stream_msg_delete"
name_of calls.ConsumerCreate = codes "consumer_create"
name_of calls.ConsumerInfo = codes "consumer_info"
name_of calls.ConsumerDelete = codes "consumer_delete"
name_of calls.ConsumerNames = codes "consumer_names"
name_of calls.ConsumerList = codes "consumer_list"
