use Rattle.desk_calls.proofs.AckCalls.{may_tell}
use Rattle.desk_calls.proofs.publishing.publish_ack.Goals as goal

pub hand_on-requires-clause-asked : goal.hand_on-requires-clause-asked
hand_on-requires-clause-asked g c = may_tell _ _ c.in-Ok.ensures.names.0 c.in-Ok.ensures.names.1 c.in-Ok.ensures.numbers.0 c.in-Ok.ensures.numbers.1 c.requires.message.reply_text
