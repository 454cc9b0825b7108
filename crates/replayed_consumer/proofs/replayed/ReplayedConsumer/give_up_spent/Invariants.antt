use Rattle.std.proofs.Common.{◌≡◌, length, Some}
use Rattle.replayed_consumer.specs.GivingUp.{without_spent}
use Rattle.replayed_consumer.proofs.replayed.ReplayedConsumer.give_up_spent.Given as goal

abbrev pub invariant-loop-moment : goal.invariant-loop-moment
invariant-loop-moment l = without_spent l.moment (Some l.most) l.self ≡ without_spent l.moment (Some l.most) l.initial.self

abbrev pub decreases-loop-moment : goal.decreases-loop-moment
decreases-loop-moment l = length l.self.pending
