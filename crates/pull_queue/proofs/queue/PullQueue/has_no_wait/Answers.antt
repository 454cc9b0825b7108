use Rattle.std.proofs.Common.{ap, ◌∙◌}
use Rattle.std.specs.Prelude.{nat_lt}
use Rattle.pull_queue.proofs.Tallies.{counts_some}
use Rattle.pull_queue.proofs.queue.PullQueue.has_no_wait.Goals as goal

pub returns : goal.returns
returns c = record { value = rw (← c.self.view_is) (ap (nat_lt 0) c.self.invariant.counted ∙ counts_some c.self.inside.pulls.items) }
