use Rattle.std.proofs.Common.{Option, ap}
use Rattle.effects.specs.declared.durable.Body.{Body}
use Rattle.log_replay.proofs.replay.Replay.of.Goals as goal

pub body_from-requires : goal.body_from-requires
body_from-requires c = record { formed = c.requires.formed; storable = (c.args.durable.incarnation, c.requires.storable); in_time = c.requires.in_time }

pub returns : goal.returns
returns c = record { value = ap (λ (o : Option Body). record { incarnation = c.args.durable.incarnation; body = o }) c.in_ok-body.ensures.value }
