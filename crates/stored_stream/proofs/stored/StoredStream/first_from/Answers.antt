use Rattle.std.proofs.Common.{ap, ◌∙◌}
use Rattle.std.specs.Prelude.{find, nat_le}
use Rattle.js_model.specs.declared.stream.Message.{Message}
use Rattle.stored_stream.proofs.stored.StoredStream.first_from.Goals as goal

pub returns : goal.returns
returns c = record { value = rw (← c.self.view_is) (c.at_or_after.ensures.value ∙ ap (find (λ (m : Message). nat_le c.args.seq m.seq)) c.by_sequence.ensures.value) }
