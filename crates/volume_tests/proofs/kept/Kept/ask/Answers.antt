use Rattle.volume_tests.proofs.Asked.{event_proper}
use Rattle.volume_tests.proofs.kept.Kept.ask.Goals as goal

pub step-told-requires-clause-told : goal.step-told-requires-clause-told
step-told-requires-clause-told c = c.requires.asked.told

pub step-told-requires-clause-proper : goal.step-told-requires-clause-proper
step-told-requires-clause-proper c = event_proper c.incarnation.result c.args.what c.incarnation.ensures.bound c.requires.asked
