use Rattle.std.proofs.Common.{◌≡◌, ◌≤◌, length, subst}
use Rattle.js_base.specs.Bytes.{Bytes}
use Rattle.op_records.proofs.Loops.{stand_push}
use Rattle.op_records.proofs.reading.read_records.Goals as goal

pub loop-reader-preserved : goal.loop-reader-preserved
loop-reader-preserved c =
    let before = c.loop-reader.invariant in
    let more = c.record.ensures.behind in
    let read = rw before.bytes at c.in_ok-found.ensures.reading in
    let same : c.record.new.reader.bytes.now ≡ c.args.bytes.now = rw more.bytes before.bytes in
    record {
      bytes = same;
      stand = rw c.in_ok-push.ensures.ok (stand_push c.args.bytes.now 0 c.loop-reader.records c.loop-reader.reader.at c.in_ok-found.found c.record.new.reader.at before.stand read);
      within = subst (λ (bytes : Bytes). c.record.new.reader.at ≤ length bytes) same more.within;
    }
