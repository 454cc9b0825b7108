-- What a stream is asked that leaves the catalog as it is, and by which call of the API.
use Rattle.std.specs.Prelude.{Option}
use Rattle.js_base.specs.Bytes.{Bytes}
use Rattle.js_model.specs.declared.event.What.{What}
use Rattle.js_model.specs.declared.event.What.TheVariants as whats
use Rattle.api_calls.specs.declared.call.ApiCall.{ApiCall}
use Rattle.api_calls.specs.declared.call.ApiCall.TheVariants as calls
use Rattle.desk_streams.specs.declared.asking.Asking.{Asking}
use Rattle.desk_streams.specs.declared.asking.Asking.TheVariants.{Info, Purge, Get, Delete, MakeConsumer, ConsumerInfo, DropConsumer, ConsumerNames, ConsumerList}

abbrev pub call_of : Asking → ApiCall
call_of Info = calls.StreamInfo
call_of (Purge filter below keep) = calls.StreamPurge
call_of (Get by) = calls.StreamMsgGet
call_of (Delete seq) = calls.StreamMsgDelete
call_of (MakeConsumer name config update) = calls.ConsumerCreate
call_of (ConsumerInfo name) = calls.ConsumerInfo
call_of (DropConsumer name) = calls.ConsumerDelete
call_of (ConsumerNames offset) = calls.ConsumerNames
call_of (ConsumerList offset) = calls.ConsumerList

-- what its place is asked, to be answered to this subject
abbrev pub what_of : Asking → Option Bytes → What
what_of Info to = whats.StreamInfo to
what_of (Purge filter below keep) to = whats.Purge to filter.now below keep
what_of (Get by) to = whats.MessageGet to by.now
what_of (Delete seq) to = whats.Delete to seq
what_of (MakeConsumer name config update) to = whats.MakeConsumer to name.now config.now update
what_of (ConsumerInfo name) to = whats.ConsumerInfo to name.now
what_of (DropConsumer name) to = whats.DropConsumer to name.now
what_of (ConsumerNames offset) to = whats.ConsumerNames to offset
what_of (ConsumerList offset) to = whats.ConsumerList to offset
