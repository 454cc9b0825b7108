use Rattle.std.proofs.Common.{ap, subst, sym, ◌∙◌}
use Rattle.replayed_consumer.specs.GivingUp.{with_greatest, without_spent}
use Rattle.replayed_consumer.specs.Storable.{Keeps}
use Rattle.replayed_consumer.proofs.Spent.{given_up_keeps}
use Rattle.replayed_consumer.proofs.replayed.ReplayedConsumer.give_up.Goals as goal

pub returns-clause-value : goal.returns-clause-value
returns-clause-value c = c.keep_greatest.ensures.value ∙ ap with_greatest (c.give_up_spent.ensures.value ∙ ap (λ most. without_spent c.args.moment most c.args.self.now) c.max_deliver-most.ensures.value)

pub returns-clause-keeps : goal.returns-clause-keeps
returns-clause-keeps c =
    subst (Keeps c.args.self.now)
    (sym (c.keep_greatest.ensures.value ∙ ap with_greatest (c.give_up_spent.ensures.value ∙ ap (λ most. without_spent c.args.moment most c.args.self.now) c.max_deliver-most.ensures.value)))
    (given_up_keeps c.args.moment c.args.self.now)
