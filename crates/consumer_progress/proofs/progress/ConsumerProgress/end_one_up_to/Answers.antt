use Rattle.std.proofs.Common.{refl, sym, ◌∙◌}
use Rattle.consumer_progress.proofs.Least.{least_delivered_there, nothing_ended}
use Rattle.consumer_progress.proofs.progress.ConsumerProgress.end_one_up_to.Goals as goal

pub returns-in_err-least : goal.returns-in_err-least
returns-in_err-least c = record { value = rw c.from_residual.ensures (nothing_ended c.args.seq c.args.self.now c.least_delivered.ensures.progress _ (sym c.in_err-least.was ∙ c.least_delivered.ensures.value) tt, refl) }

pub returns-then-seq-least : goal.returns-then-seq-least
returns-then-seq-least c = record { value = (nothing_ended c.args.seq c.args.self.now c.least_delivered.ensures.progress _ (sym c.in_ok-least.was ∙ c.least_delivered.ensures.value) c.if-seq-least.true, refl) }

pub returns : goal.returns
returns c = record { value = (c.if-seq-least.false, least_delivered_there c.args.self.now c.in_ok-least.least (sym c.in_ok-least.was ∙ c.least_delivered.ensures.value), c.end.ensures.value) }
