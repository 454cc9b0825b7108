use Rattle.block_reading.proofs.OneReading.{law_stored}
use Rattle.block_reading.proofs.laws.law_stored.Goals as goal

pub returns : goal.returns
returns c = law_stored
