use Rattle.std.proofs.Common.{◌<◌, length, sym, subst, arith}
use Rattle.api_replies.specs.Printed.{ConsumerIsText}
use Rattle.api_replies.proofs.consumer.consumer_values.Goals as goal

pub consumer_object-requires : goal.consumer_object-requires
consumer_object-requires c =
    let within : c.loop-info.info-index < length c.args.list.now = omega arith in
    record { texts = subst ConsumerIsText (sym c.info-item.is) (c.requires.texts c.loop-info.info-index c.info-item.result within) }
