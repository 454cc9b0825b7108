use Rattle.place_drive.proofs.Proper.{consumer_asked}
use Rattle.place_drive.proofs.asked.consumer.Goals as goal

pub returns : goal.returns
returns c =
    record { asked = rw (c.in_ok-of.ensures, c.in_ok-of-2.ensures, c.empty.ensures, c.empty-2.ensures, c.empty-3.ensures, c.empty-4.ensures) (consumer_asked c.args.name.now c.args.max_deliver c.args.max_ack_pending c.requires.name c.requires.often c.requires.pending) }
