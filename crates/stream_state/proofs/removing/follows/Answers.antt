use Rattle.std.proofs.Common.{ap, sym, ◌∙◌}
use Rattle.std.specs.Prelude.{find, nat_le}
use Rattle.js_model.specs.declared.stream.Message.{Message}
use Rattle.js_model.specs.declared.stream.Stream.{Stream}
use Rattle.removals.specs.Leaving.{follows, is_of}
use Rattle.stream_state.proofs.removing.follows.Goals as goal

pub returns-in-Some-first_from : goal.returns-in-Some-first_from
returns-in-Some-first_from c =
    let found = c.in-Some-first_from.ensures.value ∙ ap (λ (x : Stream). find (λ (m : Message). nat_le c.in-Some.last m.seq) x.messages) c.stored.ensures.value in
    record { value = ap (is_of c.args.seq) found ∙ sym (ap (λ o. follows o c.args.stream.now.messages c.args.seq) c.in-Some.is) }

pub returns-in-None : goal.returns-in-None
returns-in-None c =
    let found = c.in-None.ensures.value ∙ ap (λ (x : Stream). find (λ (m : Message). nat_le c.in-Some.last m.seq) x.messages) c.stored.ensures.value in
    record { value = ap (is_of c.args.seq) found ∙ sym (ap (λ o. follows o c.args.stream.now.messages c.args.seq) c.in-Some.is) }
