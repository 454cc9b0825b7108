use Rattle.consumer_state.proofs.Configs.{once_is}
use Rattle.consumer_state.proofs.consumer.Consumer.make.Goals as goal

pub at_start-requires-clause-once : goal.at_start-requires-clause-once
at_start-requires-clause-once g c = once_is c.args.config.now c.requires.valid
