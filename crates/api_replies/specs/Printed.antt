-- Which texts an answer shows that are not the server's own: each is UTF-8. Bytes that are shown in base64 may be any.
use Rattle.std.specs.Prelude.{IsUtf8}
use Rattle.std.specs.List.{All}
use Rattle.js_model.specs.declared.reply.Reply.{Reply}
use Rattle.js_model.specs.declared.reply.Reply.TheVariants as answers
use Rattle.js_model.specs.declared.reply.StreamInfo.{StreamInfo}
use Rattle.js_model.specs.declared.reply.ConsumerInfo.{ConsumerInfo}
use Rattle.stream_config.specs.Printing.{IsPrinted}
use Rattle.consumer_config.specs.Printing.{IsPrinted as IsPrintedConsumer}
use Rattle.api_replies.specs.declared.reply.ApiReply.{ApiReply}
use Rattle.api_replies.specs.declared.reply.ApiReply.TheVariants as replies

abbrev pub InfoIsText : StreamInfo → Type 0
InfoIsText info = IsPrinted info.config

pub record ConsumerIsText (info : ConsumerInfo) : Type 0 where
  pub config : IsPrintedConsumer info.config
  pub name : IsUtf8 info.name
  pub stream : IsUtf8 info.stream

abbrev pub IsText : ApiReply → Type 0
IsText (replies.AccountInfo consumers storage streams) = Unit {0}
IsText (replies.StreamCreate info) = InfoIsText info
IsText (replies.StreamUpdate info) = InfoIsText info
IsText (replies.StreamInfo info) = InfoIsText info
IsText replies.StreamDelete = Unit {0}
IsText (replies.StreamPurge purged) = Unit {0}
IsText (replies.StreamNames offset streams total) = All IsUtf8 streams
IsText (replies.StreamList offset streams total) = All InfoIsText streams
IsText (replies.StreamMsgGet message) = IsUtf8 message.subject
IsText replies.StreamMsgDelete = Unit {0}
IsText (replies.ConsumerCreate info) = ConsumerIsText info
IsText (replies.ConsumerInfo info) = ConsumerIsText info
IsText replies.ConsumerDelete = Unit {0}
IsText (replies.ConsumerNames consumers offset total) = All IsUtf8 consumers
IsText (replies.ConsumerList consumers offset total) = All ConsumerIsText consumers
IsText (replies.Refused name e) = IsUtf8 name × IsUtf8 e.text

-- of an answer to a publish it is the refusal's
abbrev pub IsAckText : Reply → Type 0
IsAckText (answers.Refused e) = IsUtf8 e.text
IsAckText (answers.Published seq) = Unit {0}
IsAckText (answers.Duplicate seq) = Unit {0}
IsAckText (answers.Info info) = Unit {0}
IsAckText answers.Done = Unit {0}
IsAckText (answers.Purged purged) = Unit {0}
IsAckText (answers.ConsumerInfo info) = Unit {0}
IsAckText (answers.Message message) = Unit {0}
IsAckText (answers.Names total list) = Unit {0}
IsAckText (answers.Infos total list) = Unit {0}
IsAckText answers.Confirmed = Unit {0}
IsAckText answers.Silent = Unit {0}
IsAckText answers.Nobody = Unit {0}
