use Rattle.std.proofs.Common.{◌≡◌, Some, sym}
use Rattle.stored_stream.proofs.Limiting.{counted_over, none_counted_over}
use Rattle.stored_stream.proofs.crowding.is_crowded.Goals as goal

pub returns-in-Some-of : goal.returns-in-Some-of
returns-in-Some-of c =
    let s = c.args.stream.now in
    let limit : s.config.max_msgs_per_subject ≡ Some c.in-Some.most = cc in
    record { value = counted_over s c.args.subject.now c.in-Some.most c.in-Some-of.counts c.requires.sound limit (sym c.in-Some-of.ensures.value) }

pub returns-in-None : goal.returns-in-None
returns-in-None c = record { value = none_counted_over c.args.stream.now c.args.subject.now (sym c.in-None.ensures.value) }
