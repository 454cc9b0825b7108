use Rattle.std.proofs.Common.{sym}
use Rattle.replayed_consumer.proofs.GivingUp.{unlimited}
use Rattle.replayed_consumer.proofs.replayed.ReplayedConsumer.give_up_spent.Goals as goal

pub returns-in_default : goal.returns-in_default
returns-in_default c = record { value = rw c.in_default.is (sym (unlimited c.args.moment c.args.self.now)) }
