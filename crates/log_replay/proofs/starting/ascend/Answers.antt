use Rattle.std.proofs.Common.{sym, ◌∙◌}
use Rattle.durable_checks.proofs.Searching.{low_there, high_there}
use Rattle.log_replay.proofs.starting.ascend.Goals as goal
use Rattle.log_replay.proofs.starting.ascend.Goals.{then-seq-least-via-then-seq-least, then-seq-least-via-else-seq-least+then-end-seq}

pub returns-then-seq-least : goal.returns-then-seq-least
returns-then-seq-least c =
    let seqs = c.args.seqs.now in
    let least = c.loop-seq.least in
    let k = c.loop-seq.seq-index in
    elim c.then-seq-least.branch [
      | then-seq-least-via-then-seq-least w ↦ record { value = sym (c.loop-seq.invariant ∙ low_there least c.args.end seqs k c.loop-seq-test.true w.if-seq-least.true) }
      | then-seq-least-via-else-seq-least+then-end-seq w ↦ record { value = sym (c.loop-seq.invariant ∙ high_there least c.args.end seqs k c.loop-seq-test.true w.if-end-seq.true) }
    ]
