use Rattle.checksum.proofs.Registers.{law}
use Rattle.checksum.proofs.laws.law_checksum.Goals as goal

pub returns : goal.returns
returns c = law
