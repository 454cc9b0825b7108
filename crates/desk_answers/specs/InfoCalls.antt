-- Calls of the JetStream API that a stream answers by its information or that of a consumer, and those that it answers by their success alone.
use Rattle.js_model.specs.declared.reply.StreamInfo.{StreamInfo}
use Rattle.js_model.specs.declared.reply.ConsumerInfo.{ConsumerInfo}
use Rattle.api_calls.specs.declared.call.ApiCall.{ApiCall}
use Rattle.api_calls.specs.declared.call.ApiCall.TheVariants as calls
use Rattle.api_replies.specs.declared.reply.ApiReply.{ApiReply}
use Rattle.api_replies.specs.declared.reply.ApiReply.TheVariants as replies
use Rattle.desk_answers.specs.declared.answering.InfoCall.{InfoCall}
use Rattle.desk_answers.specs.declared.answering.InfoCall.TheVariants.{Create, Update, Info}
use Rattle.desk_answers.specs.declared.answering.DoneCall.{DoneCall}
use Rattle.desk_answers.specs.declared.answering.DoneCall.TheVariants.{Delete, MsgDelete, ConsumerDelete}
use Rattle.desk_answers.specs.declared.consumer_answers.ConsumerCall.{ConsumerCall}
use Rattle.desk_answers.specs.declared.consumer_answers.ConsumerCall.TheVariants as consumer

abbrev pub call_of : InfoCall → ApiCall
call_of Create = calls.StreamCreate
call_of Update = calls.StreamUpdate
call_of Info = calls.StreamInfo

abbrev pub answer_by : InfoCall → StreamInfo → ApiReply
answer_by Create = replies.StreamCreate
answer_by Update = replies.StreamUpdate
answer_by Info = replies.StreamInfo

abbrev pub done_call_of : DoneCall → ApiCall
done_call_of Delete = calls.StreamDelete
done_call_of MsgDelete = calls.StreamMsgDelete
done_call_of ConsumerDelete = calls.ConsumerDelete

abbrev pub success_of : DoneCall → ApiReply
success_of Delete = replies.StreamDelete
success_of MsgDelete = replies.StreamMsgDelete
success_of ConsumerDelete = replies.ConsumerDelete

abbrev pub consumer_call_of : ConsumerCall → ApiCall
consumer_call_of consumer.Create = calls.ConsumerCreate
consumer_call_of consumer.Info = calls.ConsumerInfo

abbrev pub consumer_answer_by : ConsumerCall → ConsumerInfo → ApiReply
consumer_answer_by consumer.Create = replies.ConsumerCreate
consumer_answer_by consumer.Info = replies.ConsumerInfo
