use Rattle.std.proofs.Common.{arith, inl, inr}
use Rattle.std.proofs.lemmas.Result.{err_from_is_err_and}
use Rattle.block_reading.proofs.Checking.{none_yet, one_more, whole, end_fault, is_batch, not_next}
use Rattle.block_reading.proofs.bytes.check_bytes.Goals as goal
use Rattle.block_reading.proofs.bytes.check_bytes.Goals.{then-seq-low-via-then-seq-low, then-seq-low-via-else-seq-low+then-last-seq}

pub loop-at-init : goal.loop-at-init
loop-at-init c = record { stand = none_yet c.args.bytes.now c.args.last; within = omega arith }

pub next_message-requires : goal.next_message-requires
next_message-requires c = record { within = c.loop-at.invariant.within; short = omega (arith, c.requires.within, c.ranges.end) }

pub returns-in_err-seq-clause-fault : goal.returns-in_err-seq-clause-fault
returns-in_err-seq-clause-fault c =
    let p = err_from_is_err_and c.from_residual.result c.from_residual.ensures.1 in
    rw (p.1, p.2) (end_fault c.args.bytes.now c.args.last c.loop-at.at c.loop-at.low c.args.end c.in_err-seq.field-0.0 c.loop-at.invariant.stand c.loop-at-test.true c.in_err-seq.ensures.fault)

pub returns-then-seq-low-clause-fault : goal.returns-then-seq-low-clause-fault
returns-then-seq-low-clause-fault c =
    not_next c.args.bytes.now c.args.last c.loop-at.at c.loop-at.low c.args.end c.in_ok-seq.seq c.in_ok-seq.behind c.loop-at.invariant.stand c.loop-at-test.true c.in_ok-seq.ensures.ends
    (elim c.then-seq-low.branch [
      | then-seq-low-via-then-seq-low w ↦ inl w.if-seq-low.true
      | then-seq-low-via-else-seq-low+then-last-seq w ↦ inr w.if-last-seq.true
    ])

pub loop-at-preserved : goal.loop-at-preserved
loop-at-preserved c = record {
  stand = one_more c.args.bytes.now c.args.last c.loop-at.at c.loop-at.low c.in_ok-seq.seq c.in_ok-seq.behind c.loop-at.invariant.stand c.in_ok-seq.ensures.ends (omega arith) (omega arith);
  within = c.in_ok-seq.ensures.on.within;
}

pub loop-at-smaller : goal.loop-at-smaller
loop-at-smaller c = omega (arith, c.in_ok-seq.ensures.on.further, c.loop-at-test.true)

pub returns-clause-messages : goal.returns-clause-messages
returns-clause-messages c =
    whole c.args.bytes.now c.args.last c.loop-at.at c.loop-at.low c.args.end (is_batch c.args.bytes.now (λ k. (c.type_inv.bytes k).fits) (omega (arith, c.requires.within, c.ranges.end))) c.loop-at.invariant.stand (omega arith)
    c.loop-at.invariant.within c.requires.within
