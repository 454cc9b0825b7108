use Rattle.std.proofs.Common.{sym, ◌∙◌}
use Rattle.std.specs.Prelude.{nat_lt}
use Rattle.std.proofs.lemmas.List.Sums.{length-filter}
use Rattle.consumer_progress.proofs.progress.ConsumerProgress.redelivered.Goals as goal

pub returns : goal.returns
returns c = record { value = rw (← c.self.view_is) (c.again.ensures.value ∙ sym (length-filter (λ e. nat_lt 1 e.count) c.self.inside.pending)) }
