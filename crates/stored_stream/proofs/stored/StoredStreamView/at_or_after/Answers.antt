use Rattle.std.proofs.Common.{Some, ap, ◌∙◌, arith}
use Rattle.std.specs.Prelude.{find, nat_le, option_map}
use Rattle.js_model.specs.declared.stream.Message.{Message}
use Rattle.message_store.specs.Stored.{IsSmall}
use Rattle.stream_view.specs.Heads.{head_of}
use Rattle.stored_stream.proofs.Finding.{all_found}
use Rattle.stored_stream.proofs.stored.StoredStreamView.at_or_after.Goals as goal

pub of-requires : goal.of-requires
of-requires c =
    let found = c.in-Some.ensures.value ∙ ap (find (λ (m : Message). nat_le c.args.seq m.seq)) c.by_sequence.ensures.value in
    let small : IsSmall c.in-Some.message.now = all_found IsSmall (λ m. nat_le c.args.seq m.seq) c.in-Some.message.now c.self.inside.messages c.self.invariant.sound.small found in
    record { small = omega (arith, small) }

pub returns-in-Some : goal.returns-in-Some
returns-in-Some c =
    let found = c.in-Some.ensures.value ∙ ap (find (λ (m : Message). nat_le c.args.seq m.seq)) c.by_sequence.ensures.value in
    record { value = rw (← c.self.view_is) (ap Some c.of.ensures.value ∙ ap (option_map head_of) found) }

pub returns-in-None : goal.returns-in-None
returns-in-None c =
    let found = c.in-None.ensures.value ∙ ap (find (λ (m : Message). nat_le c.args.seq m.seq)) c.by_sequence.ensures.value in
    record { value = rw (← c.self.view_is) (ap (option_map head_of) found) }
