use Rattle.session.proofs.Connected.{reads_object, reads_none}
use Rattle.session.proofs.connect.read_connect.Goals as goal

pub returns-in-Ok : goal.returns-in-Ok
returns-in-Ok c = record { reads = reads_object c.args.text.now _ _ c.ok_or.result c.in-Ok.ensures.reading c.options_in.ensures.value c.ok_or.ensures.value }

pub returns-in-Err : goal.returns-in-Err
returns-in-Err c = record { reads = reads_none c.args.text.now _ _ c.in-Err.ensures.reading c.stop_by.ensures.value }
