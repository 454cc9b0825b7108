use Rattle.std.proofs.Common.{◌≡◌, length, Some}
use Rattle.consumer_progress.specs.GivingUp.{with_given_up}
use Rattle.consumer_progress.proofs.progress.ConsumerProgress.give_up.Given as goal

abbrev pub invariant-loop-now : goal.invariant-loop-now
invariant-loop-now l = with_given_up l.now (Some l.most) l.self ≡ with_given_up l.now (Some l.most) l.initial.self

abbrev pub decreases-loop-now : goal.decreases-loop-now
decreases-loop-now l = length l.self.pending
