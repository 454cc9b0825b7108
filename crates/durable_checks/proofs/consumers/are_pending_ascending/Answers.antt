use Rattle.std.proofs.Common.{ℕ, List, sym, ap, ◌∙◌}
use Rattle.js_model.specs.declared.consumer.Pending.{Pending}
use Rattle.model_laws.specs.SoundTests.{are_between}
use Rattle.durable_checks.proofs.Searching.{between_mapped}
use Rattle.durable_checks.proofs.consumers.are_pending_ascending.Goals as goal

pub returns : goal.returns
returns c =
    let consumer = c.args.consumer.now in
    record { value = c.ascend.ensures.value ∙ ap (λ (l : List ℕ). are_between (λ n. n) 1 consumer.cursor l) c.requires.pending ∙ sym (between_mapped (λ (p : Pending). p.seq) 1 consumer.cursor consumer.pending) }
