use Rattle.std.proofs.Common.{◌≡◌, ◌<◌, ℕ, false}
use Rattle.catalog.specs.Conflicts.{conflict_at}
use Rattle.catalog.proofs.conflict.first_conflict.Given as goal

-- no stream so far conflicts with one behind it
abbrev pub invariant-loop-first : goal.invariant-loop-first
invariant-loop-first l = record {
  none : (m n : ℕ) → m < l.first → m < n → conflict_at l.kept m n ≡ false;
}
