use Rattle.std.proofs.Common.{◌≤◌, ◌-◌, length}
use Rattle.log_records.specs.Holding.{made_in, IsSoundMade}
use Rattle.log_records.proofs.Adding.{IsReadUpTo}
use Rattle.log_records.proofs.batch.add_records.Given as goal

-- the records up to here are read
abbrev pub invariant-loop-at : goal.invariant-loop-at
invariant-loop-at l = record {
  read : IsReadUpTo (made_in l.fn.old) l.records l.at (made_in l.made) l.last;
  sound : IsSoundMade l.made;
  within : l.at ≤ length l.records;
}

abbrev pub decreases-loop-at : goal.decreases-loop-at
decreases-loop-at l = length l.records - l.at
