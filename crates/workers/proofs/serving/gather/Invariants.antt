use Rattle.std.specs.Prelude.{◌≡◌, ◌+◌, Some, length, reverse, vec_capacity}
use Rattle.std.specs.List.{AllByRecursion, list_any}
use Rattle.workers.proofs.Rows.{Moves}
use Rattle.workers.specs.Working.{HasPass}
use Rattle.workers.proofs.serving.gather.Given as goal

abbrev pub invariant-loop-worker : goal.invariant-loop-worker
invariant-loop-worker g l = ((moves : Moves (λ w scene. w.pass ≡ Some scene) l.fn.workers.items l.workers.items l.passes.items) × (l.worn ≡ list_any (λ w. w.worn) (reverse moves.gone)))
    × AllByRecursion (λ w. HasPass w.pass w.share.parts w.share.amount) l.workers.items
    × (l.all.parts + length l.workers.items ≡ l.fn.all.parts + length l.fn.workers.items) × (l.all.amount ≡ l.fn.all.amount) × (vec_capacity l.passes ≡ vec_capacity l.fn.passes)

abbrev pub decreases-loop-worker : goal.decreases-loop-worker
decreases-loop-worker g l = length l.workers.items
