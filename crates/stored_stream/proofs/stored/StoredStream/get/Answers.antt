use Rattle.std.proofs.Common.{ap, ◌∙◌, ◌==◌}
use Rattle.std.specs.Prelude.{find}
use Rattle.js_model.specs.declared.stream.Message.{Message}
use Rattle.stored_stream.proofs.Finding.{text_found}
use Rattle.stored_stream.proofs.stored.StoredStream.get.Goals as goal

pub returns-clause-value : goal.returns-clause-value
returns-clause-value c = rw (← c.self.view_is) (c.get.ensures.value ∙ ap (find (λ (m : Message). m.seq == c.args.seq)) c.by_sequence.ensures.value)

pub returns-clause-utf8 : goal.returns-clause-utf8
returns-clause-utf8 c =
    text_found c.get.result (λ m. m.seq == c.args.seq) c.self.inside.messages c.self.invariant.sound.texts (c.get.ensures.value ∙ ap (find (λ (m : Message). m.seq == c.args.seq)) c.by_sequence.ensures.value)
