use Rattle.std.proofs.Common.{◌<◌, length, sym, subst, arith}
use Rattle.api_replies.specs.Printed.{InfoIsText}
use Rattle.api_replies.proofs.stream_info.info_values.Goals as goal

pub info_object-requires : goal.info_object-requires
info_object-requires c =
    let within : c.loop-info.info-index < length c.args.list.now = omega arith in
    record { texts = subst InfoIsText (sym c.info-item.is) (c.requires.texts c.loop-info.info-index c.info-item.result within) }
