use Rattle.volume_tests.proofs.Asked.{marked_asked}
use Rattle.volume_tests.proofs.deeds.publish_under.Goals as goal

pub returns : goal.returns
returns c = record { asked = rw (c.in_ok-of.ensures, c.in_ok-of-2.ensures, c.in_ok-of-3.ensures, c.empty.ensures) (marked_asked c.args.id.now) }
