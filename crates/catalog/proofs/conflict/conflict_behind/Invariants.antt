use Rattle.std.proofs.Common.{◌≡◌, ◌<◌, ℕ, false}
use Rattle.catalog.specs.Conflicts.{conflict_at}
use Rattle.catalog.proofs.conflict.conflict_behind.Given as goal

-- no stream so far conflicts with that of the first place
abbrev pub invariant-loop-second : goal.invariant-loop-second
invariant-loop-second l = record {
  behind : l.first < l.second;
  none : (n : ℕ) → l.first < n → n < l.second → conflict_at l.kept l.first n ≡ false;
}
