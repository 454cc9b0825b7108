-- What a place shows can be printed as the answer to a publish.
use Rattle.js_model.specs.declared.reply.Reply.{Reply}
use Rattle.js_model.specs.declared.reply.Reply.TheVariants as told
use Rattle.api_replies.specs.Printed.{IsAckText}
use Rattle.place_engine.specs.Shown.{IsShown}

pub ack_text : (reply : Reply) → IsShown reply → IsAckText reply
ack_text (told.Info info) shown = tt
ack_text told.Done shown = tt
ack_text (told.Published seq) shown = tt
ack_text (told.Duplicate seq) shown = tt
ack_text (told.Purged purged) shown = tt
ack_text (told.ConsumerInfo info) shown = tt
ack_text (told.Message message) shown = tt
ack_text (told.Names total list) shown = tt
ack_text (told.Infos total list) shown = tt
ack_text told.Confirmed shown = tt
ack_text told.Silent shown = tt
ack_text told.Nobody shown = tt
ack_text (told.Refused e) shown = shown
