use Rattle.std.proofs.Common.{true, refl, ap, sym, ◌∙◌, length}
use Rattle.js_model.specs.declared.stream.Message.{Message}
use Rattle.stored_stream.proofs.Lists.{filter_all}
use Rattle.stored_stream.proofs.selector.Selector.count.Goals as goal

pub returns-in-All : goal.returns-in-All
returns-in-All c =
    record { value = c.count.ensures.value ∙ rw c.in-All.is (ap length (sym (filter_all (λ (m : Message). true) c.args.stream.now.messages (λ k d l. refl)))) }
