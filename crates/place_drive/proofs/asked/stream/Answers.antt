use Rattle.place_drive.proofs.Proper.{stream_asked}
use Rattle.place_drive.proofs.asked.stream.Goals as goal

pub returns : goal.returns
returns c =
    record { asked = rw (c.in_ok-push.ensures.ok, c.new-subjects.ensures, c.in_ok-of.ensures, c.in_ok-of-2.ensures, c.empty.ensures) (stream_asked c.args.retention) }
