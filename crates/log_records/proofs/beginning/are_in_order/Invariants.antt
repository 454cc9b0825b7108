use Rattle.std.proofs.Common.{take}
use Rattle.model_laws.specs.Sound.{AreOrdered}
use Rattle.log_records.proofs.beginning.are_in_order.Given as goal

-- those so far
abbrev pub invariant-loop-place : goal.invariant-loop-place
invariant-loop-place l = AreOrdered (take l.place l.consumers)
