use Rattle.retention.proofs.Walking.{first_if_over, none_if_within}
use Rattle.std.proofs.Common.{ap, sym, ◌∙◌}
use Rattle.retention.proofs.limits.over_on.Goals as goal

-- src/limits.rt:65:1
pub returns-then-limit-counts : goal.returns-then-limit-counts
returns-then-limit-counts g c = record { value = first_if_over (g.W.View.stream c.args.view.now) c.args.subject.now c.in_ok-limit.limit c.in_ok-counts.counts (ap (λ config. config.max_msgs_per_subject) (sym c.config.ensures.value) ∙ c.in_ok-limit.was) c.in_ok-counts.ensures.value c.if-limit-counts.true }

-- src/limits.rt:65:1
pub returns-else-limit-counts : goal.returns-else-limit-counts
returns-else-limit-counts g c = record { value = none_if_within (g.W.View.stream c.args.view.now) c.args.subject.now c.in_ok-limit.limit c.in_ok-counts.counts (ap (λ config. config.max_msgs_per_subject) (sym c.config.ensures.value) ∙ c.in_ok-limit.was) c.in_ok-counts.ensures.value c.if-limit-counts.false }
