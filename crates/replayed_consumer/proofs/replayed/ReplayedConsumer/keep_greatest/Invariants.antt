use Rattle.std.proofs.Common.{◌≡◌, length}
use Rattle.replayed_consumer.specs.GivingUp.{with_greatest}
use Rattle.replayed_consumer.proofs.replayed.ReplayedConsumer.keep_greatest.Given as goal

abbrev pub invariant-loop : goal.invariant-loop
invariant-loop l = with_greatest l.self ≡ with_greatest l.initial.self

abbrev pub decreases-loop : goal.decreases-loop
decreases-loop l = length l.self.given_up
