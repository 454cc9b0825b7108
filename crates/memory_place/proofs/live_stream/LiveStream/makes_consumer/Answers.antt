use Rattle.memory_place.proofs.Needing.{forbidden}
use Rattle.memory_place.proofs.live_stream.LiveStream.makes_consumer.Goals as goal

pub returns-in-Err-Refused : goal.returns-in-Err-Refused
returns-in-Err-Refused c =
    let s = c.self.inside.state in
    record { value = rw (← c.self.view_is) (forbidden s c.args.name.now c.args.config.now c.args.update _ c.consumer_config.result c.is_some.result c.if-update.false c.consumer_config.ensures.value c.is_some.ensures c.if-is_some.false _ _ c.in-Err-Refused.field-0-is c.in-Err-Refused.ensures.refused) }
