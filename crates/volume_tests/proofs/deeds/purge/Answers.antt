use Rattle.volume_tests.proofs.Asked.{purge_asked}
use Rattle.volume_tests.proofs.deeds.purge.Goals as goal

pub returns : goal.returns
returns c = record { asked = rw c.empty.ensures purge_asked }
