use Rattle.std.proofs.Common.{◌≡◌, ℕ, length}
use Rattle.js_model.specs.Lists.{Between}
use Rattle.log_replay.proofs.Ranges.{outside}
use Rattle.log_replay.proofs.removing.remove_range.Given as goal

-- what is outside the range stays
abbrev pub invariant-loop-seq : goal.invariant-loop-seq
invariant-loop-seq l = record {
  left : outside l.low l.high l.messages ≡ outside l.low l.high l.initial.messages;
  ascend : (end : ℕ) × Between (λ m. m.seq) 1 end l.messages;
}

abbrev pub decreases-loop-seq : goal.decreases-loop-seq
decreases-loop-seq l = length l.messages
