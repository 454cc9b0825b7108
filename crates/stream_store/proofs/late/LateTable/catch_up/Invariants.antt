use Rattle.std.proofs.Common.{◌≡◌, ◌-◌, length}
use Rattle.stream_store.specs.Steps.{blocks_in}
use Rattle.stream_store.proofs.late.LateTable.catch_up.Given as goal

-- what the table has and what it is going to have is the same
abbrev pub invariant-loop-self : goal.invariant-loop-self
invariant-loop-self l = blocks_in l.self ≡ blocks_in l.initial.self

abbrev pub decreases-loop-self : goal.decreases-loop-self
decreases-loop-self l = length l.self.steps.items - l.self.taken
