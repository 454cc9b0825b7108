use Rattle.memory_place.proofs.Steps.{prepares}
use Rattle.memory_place.proofs.memory_place.MemoryPlacePlace.prepare.Goals as goal

pub returns-clause-prepares : goal.returns-clause-prepares
returns-clause-prepares g c = prepares c.args.self.now.state c.args.what.now
