use Rattle.retention.proofs.Walking.{over_subject-on}
use Rattle.std.proofs.Common.{rules, sym, ◌∙◌, ◌≡◌, option_map}
use Rattle.retention.specs.Over.{over_subject}
use Rattle.retention.proofs.limits.over_limits_on.Goals as goal

-- src/limits.rt:24:1
pub returns : goal.returns
returns g c =
    let first : c.over_on.result ≡ option_map (λ m. m.seq) (over_subject (g.W.View.stream c.args.view.now)) = c.over_on.ensures.value ∙ sym (over_subject-on (g.W.View.stream c.args.view.now) c.args.subject.now c.requires.others) in
    search rules
