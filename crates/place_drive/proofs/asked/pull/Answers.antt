use Rattle.place_drive.proofs.Proper.{pull_asked}
use Rattle.place_drive.proofs.asked.pull.Goals as goal

pub returns : goal.returns
returns c =
    record { asked = rw (c.in_ok-of.ensures, c.in_ok-of-2.ensures) (pull_asked c.args.name.now c.args.ask c.requires.name c.requires.ask) }
