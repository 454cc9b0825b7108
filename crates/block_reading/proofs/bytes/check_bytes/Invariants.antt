use Rattle.std.proofs.Common.{◌-◌, ◌≤◌, length}
use Rattle.block_reading.proofs.Checking.{StandSo}
use Rattle.block_reading.proofs.bytes.check_bytes.Given as goal

-- messages stand up to the offset
abbrev pub invariant-loop-at : goal.invariant-loop-at
invariant-loop-at l = record {
  stand : StandSo l.bytes l.last l.at l.low;
  within : l.at ≤ length l.bytes;
}

abbrev pub decreases-loop-at : goal.decreases-loop-at
decreases-loop-at l = l.end - l.at
