use Rattle.std.proofs.Common.{◌++◌, ◌∷◌, [], ap, sym, ◌∙◌}
use Rattle.std.specs.Option.{option_copied}
use Rattle.js_base.specs.declared.out.Out.{Out}
use Rattle.consumer_state.proofs.Steps.{small_ends, small_has}
use Rattle.consumer_state.specs.Keeping.{kept_of}
use Rattle.consumer_state.proofs.consumer.Consumer.end_small.Goals as goal

pub returns-in_default-clause-ended : goal.returns-in_default-clause-ended
returns-in_default-clause-ended c = absurd (small_has (kept_of c.self.inside.name c.self.inside.made c.self.inside.config c.self.inside.progress c.self.inside.pulls c.self.inside.mark) c.args.self.now c.self.view_is c.args.size c.requires.small (sym (ap option_copied c.in_default.is) ∙ c.front.ensures.value))

pub returns-clause-ended : goal.returns-clause-ended
returns-clause-ended c =
    small_ends (kept_of c.self.inside.name c.self.inside.made c.self.inside.config c.self.inside.progress c.self.inside.pulls c.self.inside.mark) c.args.self.now c.self.view_is c.args.size c.args.now c.in-Some.pull.now c.take_front.new.self.pulls c.args.outs.now c.push.new.self c.requires.small
    (sym (ap option_copied c.in-Some.is) ∙ c.front.ensures.value) (ap (λ q. q.pulls) c.take_front.ensures.left)
    (c.in_ok-push.ensures.ok ∙ ap (λ (out : Out). c.args.outs.now ++ out ∷ []) c.in_ok-too_small.ensures.value)
