use Rattle.std.proofs.Common.{◌∙◌}
use Rattle.log_replay.proofs.Picking.{stored_is}
use Rattle.log_replay.proofs.starting.is_stored.Goals as goal

pub returns : goal.returns
returns c = record { value = c.is_some.ensures ∙ stored_is c.get.result c.args.messages.now c.args.seq c.get.ensures.value }
