use Rattle.std.proofs.Common.{◌∙◌, arith}
use Rattle.op_records.specs.Fields.{list_field, list_fields}
use Rattle.op_records.proofs.Loops.{goes_on, fails_on, is_done, list_fault, list_read, passed_on}
use Rattle.state_snapshot.proofs.entry.read_list.Goals as goal

pub loop-preserved : goal.loop-preserved
loop-preserved g c =
    let more = c.in_ok-entry.ensures.behind in
    let before = c.loop.invariant.behind in
    let bytes = c.word.new.self.bytes.now in
    let read = rw before.bytes at c.in_ok-entry.ensures.reading in
    record {
      behind = record { bytes = more.bytes ∙ before.bytes; further = omega (arith, more.further, before.further); within = more.within };
      so_far = rw c.in_ok-push.ensures.ok (goes_on g.T.Entry.field bytes c.loop.entries c.in_ok-count.count c.loop.counter c.loop.reader.at c.in_ok-entry.entry c.read.new.reader.at (list_fields g.T.Entry.field c.in_ok-count.count bytes c.word.new.self.at) c.loop-test.true read c.loop.invariant.so_far);
    }

pub returns-in_err-entry-clause-reading : goal.returns-in_err-entry-clause-reading
returns-in_err-entry-clause-reading g c =
    let field = g.T.Entry.field in
    let bytes = c.word.new.self.bytes.now in
    let fault = c.in_err-entry.field-0.0 in
    let wrong = rw c.loop.invariant.behind.bytes at c.in_err-entry.ensures.reading in
    let all = fails_on field bytes c.loop.entries c.in_ok-count.count c.loop.counter c.loop.reader.at fault (list_fields field c.in_ok-count.count bytes c.word.new.self.at) c.loop-test.true wrong c.loop.invariant.so_far in
    let told = rw c.in_ok-count.ensures.behind.bytes at all in
    let whole = list_fault field c.args.reader.now.bytes.now c.args.reader.now.at c.in_ok-count.count c.word.new.self.at fault c.in_ok-count.ensures.reading told in
    passed_on c.from_residual-in_err-entry.result c.read.new.reader (list_field field c.args.reader.now.bytes.now c.args.reader.now.at) fault c.from_residual-in_err-entry.ensures.1 whole

pub returns-clause-reading : goal.returns-clause-reading
returns-clause-reading g c =
    let field = g.T.Entry.field in
    let bytes = c.word.new.self.bytes.now in
    let all = is_done field bytes c.loop.entries c.in_ok-count.count c.loop.counter c.loop.reader.at (list_fields field c.in_ok-count.count bytes c.word.new.self.at) c.loop-test.false c.loop.invariant.so_far in
    let told = rw c.in_ok-count.ensures.behind.bytes at all in
    list_read field c.args.reader.now.bytes.now c.args.reader.now.at c.in_ok-count.count c.word.new.self.at c.loop.entries c.loop.reader.at c.in_ok-count.ensures.reading told
