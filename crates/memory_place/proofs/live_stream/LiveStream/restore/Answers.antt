use Rattle.memory_place.proofs.Restorable.{are_proper, restorable}
use Rattle.memory_place.proofs.live_stream.LiveStream.restore.Goals as goal

pub restore-requires-clause-kept : goal.restore-requires-clause-kept
restore-requires-clause-kept c = restorable c.args.kept.now c.requires.restored

pub restore-requires-clause-proper : goal.restore-requires-clause-proper
restore-requires-clause-proper c = are_proper c.args.kept.now c.requires.restored
