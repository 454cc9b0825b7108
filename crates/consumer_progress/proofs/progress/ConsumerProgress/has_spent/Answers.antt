use Rattle.std.proofs.Common.{ap, sym, ◌∙◌}
use Rattle.std.specs.List.{list_any}
use Rattle.consumer_progress.specs.GivingUp.{is_spent}
use Rattle.consumer_progress.proofs.GivenUp.{none_limited}
use Rattle.consumer_progress.proofs.progress.ConsumerProgress.has_spent.Goals as goal

pub returns-in-None : goal.returns-in-None
returns-in-None c = record { value = sym (none_limited c.args.now c.args.self.now.pending) ∙ ap (λ most. list_any (is_spent c.args.now most) c.args.self.now.pending) (sym c.in-None.is) }
