use Rattle.std.proofs.Common.{◌≤◌, ◌+◌, ◌++◌, All, length, take, sym, subst, arith}
use Rattle.std.proofs.lemmas.List.{take_all}
use Rattle.std.proofs.lemmas.List.Elements.{All-more}
use Rattle.js_base.specs.Bytes.{Bytes}
use Rattle.vol_disk.specs.Images.{AreBytes}
use Rattle.message_block.specs.Standing.{Stands}
use Rattle.block_writing.specs.declared.run.Run.{Run}
use Rattle.block_writing.proofs.Written.{ends_within, failed, stay_as_long, wrote}
use Rattle.block_writing.proofs.writing.write_runs.Goals as goal

pub write-requires-clause-within : goal.write-requires-clause-within
write-requires-clause-within g c = λ told.
    let run = c.run-item.result in
    let mid = g.V.Vol.disk c.loop-run.vol in
    subst (λ (l : Bytes). run.at + length l ≤ length (mid.seen run.file)) (sym c.as_slice-bytes.ensures)
    (ends_within c.args.runs.now c.loop-run.run-index run (g.V.Vol.disk c.args.vol.now) mid c.loop-run-test.true c.run-item.is c.requires.apart (c.loop-run.invariant.so_far told) (c.requires.within told))

pub returns-in_err-write-clause-changes : goal.returns-in_err-write-clause-changes
returns-in_err-write-clause-changes g c = λ told.
    failed c.args.runs.now c.loop-run.run-index c.run-item.result (g.V.Vol.disk c.args.vol.now) (g.V.Vol.disk c.loop-run.vol) c.loop-run-test.true c.run-item.is c.requires.apart (c.loop-run.invariant.so_far told)
    (g.V.Vol.disk c.write.new.vol) (c.write.ensures.changes told)

pub loop-run-preserved : goal.loop-run-preserved
loop-run-preserved g c =
    let old = g.V.Vol.disk c.args.vol.now in
    let mid = g.V.Vol.disk c.loop-run.vol in
    let new = g.V.Vol.disk c.write.new.vol in
    let run = c.run-item.result in
    record {
      so_far = λ told.
          wrote c.args.runs.now c.loop-run.run-index run old mid c.loop-run-test.true c.run-item.is c.requires.apart (c.loop-run.invariant.so_far told) new (c.write.ensures.changes told)
          (subst (λ (l : Bytes). Stands new run.file (take run.at (mid.seen run.file) ++ l)) c.as_slice-bytes.ensures (c.in_ok-write.ensures.stands told));
      as_long = λ told. stay_as_long run.file run.at old mid new (c.loop-run.invariant.as_long told) (c.write.ensures.changes told) (c.in_ok-write.ensures.as_long told);
      bytes =
          All-more (λ (r : Run). AreBytes r.bytes) c.args.runs.now c.loop-run.run-index run c.loop-run-test.true c.loop-run.invariant.bytes
          (subst (λ (r : Run). AreBytes r.bytes) c.run-item.is (subst AreBytes c.as_slice-bytes.ensures c.law_bytes.ensures));
      faults = omega (arith, c.loop-run.invariant.faults, c.write.ensures.cause.later);
      refusals = omega (arith, c.loop-run.invariant.refusals, c.write.ensures.refusals);
      moments = omega (arith, c.loop-run.invariant.moments, c.write.ensures.later);
    }

pub returns-clause-bytes : goal.returns-clause-bytes
returns-clause-bytes g c =
    subst (All (λ (r : Run). AreBytes r.bytes)) (take_all c.loop-run.run-index c.args.runs.now c.loop-run-test.false) c.loop-run.invariant.bytes

pub returns-clause-as_long : goal.returns-clause-as_long
returns-clause-as_long g c = c.loop-run.invariant.as_long
