use Rattle.std.specs.Prelude.{◌≡◌, length, vec_capacity}
use Rattle.workers.proofs.Rows.{Moves}
use Rattle.workers.specs.Working.{IsHired}
use Rattle.workers.proofs.serving.hire.Given as goal

abbrev pub invariant-loop-clock : goal.invariant-loop-clock
invariant-loop-clock g l = Moves (λ scene w. IsHired scene w.pass w.share.parts w.share.amount w.worn) l.fn.passes.items l.passes.items l.workers.items
    × (length l.clocks.items ≡ length l.passes.items) × (l.all.parts ≡ length l.passes.items) × (l.all.amount ≡ 0)
    × (vec_capacity l.passes ≡ vec_capacity l.fn.passes) × (vec_capacity l.workers ≡ vec_capacity l.fn.workers)

abbrev pub decreases-loop-clock : goal.decreases-loop-clock
decreases-loop-clock g l = length l.clocks.items
