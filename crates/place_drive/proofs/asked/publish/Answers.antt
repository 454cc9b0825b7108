use Rattle.place_drive.proofs.Proper.{publish_asked}
use Rattle.place_drive.proofs.asked.publish.Goals as goal

pub returns : goal.returns
returns c =
    record { asked = rw (c.in_ok-of.ensures, c.in_ok-of-2.ensures, c.empty.ensures, c.empty-2.ensures) (publish_asked c.args.payload.now c.requires.small) }
