use Rattle.std.proofs.Common.{sym, ◌∙◌, arith}
use Rattle.block_writing.proofs.Written.{one_dropped, emptied_more, emptied_on}
use Rattle.block_writing.proofs.dropping.drop_unused.Goals as goal
use Rattle.block_writing.proofs.dropping.drop_unused.Goals.{then-not-has_block+in_ok-drop_block, else-not-has_block}

pub returns-in_err-drop_block-clause-changes : goal.returns-in_err-drop_block-clause-changes
returns-in_err-drop_block-clause-changes g c = λ told.
    one_dropped c.args.table.now c.args.blocks.now c.loop-block.block-index (record { file = 0; end = 0 }) (g.V.Vol.disk c.args.vol.now) (g.V.Vol.disk c.loop-block.vol) (g.V.Vol.disk c.drop_block.new.vol)
    c.loop-block-test.true (sym c.has_block.ensures ∙ c.if-not-has_block.true) (c.loop-block.invariant.changes told) (c.drop_block.ensures.changes told)

pub loop-block-preserved : goal.loop-block-preserved
loop-block-preserved g c =
    elim c.if-not-has_block.branch [
      | then-not-has_block+in_ok-drop_block w ↦ rw w.vol-is (record {
        changes = λ told.
            one_dropped c.args.table.now c.args.blocks.now c.loop-block.block-index (record { file = 0; end = 0 }) (g.V.Vol.disk c.args.vol.now) (g.V.Vol.disk c.loop-block.vol) (g.V.Vol.disk w.drop_block.new.vol)
            c.loop-block-test.true (sym c.has_block.ensures ∙ w.if-not-has_block.true) (c.loop-block.invariant.changes told) (w.drop_block.ensures.changes told);
        emptied = λ told.
            emptied_more c.args.table.now c.args.blocks.now c.loop-block.block-index (record { file = 0; end = 0 }) c.loop-block-test.true (g.V.Vol.disk c.loop-block.vol) (g.V.Vol.disk w.drop_block.new.vol)
            (c.loop-block.invariant.emptied told) (w.drop_block.ensures.changes told) (w.in_ok-drop_block.ensures.empty told) (w.in_ok-drop_block.ensures.durable told);
        faults = omega (arith, c.loop-block.invariant.faults, w.drop_block.ensures.cause.later);
        refusals = omega (arith, c.loop-block.invariant.refusals, w.drop_block.ensures.refusals);
        moments = omega (arith, c.loop-block.invariant.moments, w.drop_block.ensures.later);
      })
      | else-not-has_block w ↦ rw w.vol-is (record {
        changes = c.loop-block.invariant.changes;
        emptied = λ told.
            emptied_on c.args.table.now c.args.blocks.now c.loop-block.block-index (record { file = 0; end = 0 }) c.loop-block-test.true (g.V.Vol.disk c.loop-block.vol)
            (c.loop-block.invariant.emptied told) (sym c.has_block.ensures ∙ w.if-not-has_block.false);
        faults = c.loop-block.invariant.faults;
        refusals = c.loop-block.invariant.refusals;
        moments = c.loop-block.invariant.moments;
      })
    ]
