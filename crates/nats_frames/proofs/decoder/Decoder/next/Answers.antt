use Rattle.std.proofs.Common.{◌++◌, ap}
use Rattle.nats_frames.specs.Decoding.{kept}
use Rattle.nats_frames.proofs.Taken.{given}
use Rattle.nats_frames.proofs.decoder.Decoder.next.Goals as goal

pub returns-in-Ok : goal.returns-in-Ok
returns-in-Ok c =
    let takes = rw c.in-Ok-Some.field-0-is at c.in-Ok-Some.ensures.takes in
    let parts =
    given c.args.self.now c.self.inside.before c.len-len.result _ c.in-Ok.op c.in-Ok-Some.ready.bytes (kept c.self.inside.ready ++ c.self.inside.front) c.take.new.front
    (kept c.take.new.ready ++ c.take.new.front) takes.0.1 c.in-Ok.ensures.ok c.len-len.ensures.value c.self.view_is takes.1
    (ap (λ r. kept r ++ c.take.new.front) c.take.ensures.none)
    in
    record { gives = parts.0; total = parts.1 }
