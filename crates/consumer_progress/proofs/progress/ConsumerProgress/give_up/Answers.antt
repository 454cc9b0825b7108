use Rattle.std.proofs.Common.{None, sym}
use Rattle.consumer_progress.proofs.GivenUp.{none_limited, nothing_spent}
use Rattle.consumer_progress.proofs.progress.ConsumerProgress.give_up.Goals as goal

pub returns-in_default : goal.returns-in_default
returns-in_default c = record { value = rw c.in_default.is (sym (nothing_spent c.args.now None c.args.self.now (none_limited c.args.now c.args.self.now.pending))) }
