use Rattle.std.proofs.Common.{◌∙◌, arith}
use Rattle.op_records.specs.Fields.{number_field, list_fields}
use Rattle.op_records.proofs.Loops.{goes_on}
use Rattle.op_records.proofs.reader.Reader.numbers.Goals as goal

pub loop-preserved : goal.loop-preserved
loop-preserved c =
    let more = c.in_ok-number.ensures.behind in
    let before = c.loop.invariant.behind in
    let bytes = c.word.new.self.bytes.now in
    let read = rw before.bytes at c.in_ok-number.ensures.reading in
    record {
      behind = record { bytes = more.bytes ∙ before.bytes; further = omega (arith, more.further, before.further); within = more.within };
      so_far = rw c.in_ok-push.ensures.ok (goes_on number_field bytes c.loop.numbers c.in_ok-count.count c.loop.counter c.loop.self.at c.in_ok-number.number c.number.new.self.at (list_fields number_field c.in_ok-count.count bytes c.word.new.self.at) c.loop-test.true read c.loop.invariant.so_far);
    }
