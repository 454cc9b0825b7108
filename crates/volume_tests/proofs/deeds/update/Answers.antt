use Rattle.volume_tests.proofs.Asked.{change_asked}
use Rattle.volume_tests.proofs.deeds.update.Goals as goal

pub returns : goal.returns
returns c =
    record { asked = rw (c.in_ok-push.ensures.ok, c.new-subjects.ensures, c.in_ok-of.ensures, c.in_ok-of-2.ensures, c.empty.ensures) change_asked }
