use Rattle.std.proofs.Common.{arith}
use Rattle.std.proofs.lemmas.Result.{err_from_is_err_and}
use Rattle.log_records.specs.Holding.{made_in}
use Rattle.log_records.proofs.Adding.{none_read, one_read, all_read, batch_fault}
use Rattle.log_records.proofs.batch.add_records.Goals as goal

pub loop-at-init : goal.loop-at-init
loop-at-init c = record { read = none_read (made_in c.args.old) c.args.records.now; sound = c.requires.sound; within = omega arith }

pub returns-in_err-next-clause-fault : goal.returns-in_err-next-clause-fault
returns-in_err-next-clause-fault c =
    let p = err_from_is_err_and c.from_residual.result c.from_residual.ensures.1 in
    rw (p.1, p.2) (batch_fault (made_in c.args.old) c.args.records.now c.loop-at.at (made_in c.loop-at.made) c.loop-at.last c.in_err-next.field-0.0 c.loop-at-test.true c.loop-at.invariant.read c.in_err-next.ensures.fault)

pub loop-at-preserved : goal.loop-at-preserved
loop-at-preserved c =
    let before = c.loop-at.invariant in
    let one = c.in_ok-next in
    record {
      read = one_read (made_in c.args.old) c.args.records.now c.loop-at.at one.behind (made_in c.loop-at.made) (made_in one.next) c.loop-at.last before.read one.ensures.next;
      sound = one.ensures.sound;
      within = one.ensures.further.1;
    }

pub returns-clause-read : goal.returns-clause-read
returns-clause-read c = all_read (made_in c.args.old) c.args.records.now c.loop-at.at (made_in c.loop-at.made) c.loop-at.last c.loop-at-test.false c.loop-at.invariant.within c.loop-at.invariant.read
