use Rattle.std.proofs.Common.{ap, ◌∙◌}
use Rattle.std.specs.Prelude.{option_map}
use Rattle.js_model.specs.declared.stream.Message.{Message}
use Rattle.stored_stream.proofs.Selections.{next_of_all}
use Rattle.stored_stream.proofs.purging.next_of_all.Goals as goal

pub returns-in-Some : goal.returns-in-Some
returns-in-Some c = record { value = ap (option_map (λ (m : Message). m.seq)) c.in-Some.ensures.value ∙ next_of_all c.args.stream.now.messages c.args.from }

pub returns-in-None : goal.returns-in-None
returns-in-None c = record { value = ap (option_map (λ (m : Message). m.seq)) c.in-None.ensures.value ∙ next_of_all c.args.stream.now.messages c.args.from }
