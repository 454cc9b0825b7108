use Rattle.std.proofs.Common.{ap, ◌∙◌}
use Rattle.std.specs.Option.{option_map}
use Rattle.js_model.specs.declared.consumer.Pending.{Pending}
use Rattle.consumer_progress.proofs.GivenUp.{due_found}
use Rattle.consumer_progress.proofs.progress.ConsumerProgress.due.Goals as goal

pub returns-clause-value : goal.returns-clause-value
returns-clause-value c =
    let unspent = rw (← c.self.view_is) at c.requires.unspent in
    rw (← c.self.view_is) (c.due.ensures.value ∙ ap (option_map (λ (e : Pending). e.seq)) (due_found c.args.now c.args.most c.self.inside.pending unspent.below))
