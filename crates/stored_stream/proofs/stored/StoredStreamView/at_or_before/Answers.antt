use Rattle.std.proofs.Common.{Some, None, List, ap, ◌∙◌, arith}
use Rattle.std.specs.Prelude.{filter, nat_le, option_map}
use Rattle.std.specs.List.{last_or}
use Rattle.js_model.specs.declared.stream.Message.{Message}
use Rattle.message_store.specs.Stored.{IsSmall}
use Rattle.stream_view.specs.Heads.{head_of}
use Rattle.stored_stream.proofs.Finding.{all_last}
use Rattle.stored_stream.proofs.stored.StoredStreamView.at_or_before.Goals as goal

pub of-requires : goal.of-requires
of-requires c =
    let found = c.in-Some.ensures.value ∙ ap (λ (ms : List Message). last_or None (filter (λ m. nat_le m.seq c.args.seq) ms)) c.by_sequence.ensures.value in
    let small : IsSmall c.in-Some.message.now = all_last IsSmall (λ m. nat_le m.seq c.args.seq) c.in-Some.message.now c.self.inside.messages c.self.invariant.sound.small found in
    record { small = omega (arith, small) }

pub returns-in-Some : goal.returns-in-Some
returns-in-Some c =
    let found = c.in-Some.ensures.value ∙ ap (λ (ms : List Message). last_or None (filter (λ m. nat_le m.seq c.args.seq) ms)) c.by_sequence.ensures.value in
    record { value = rw (← c.self.view_is) (ap Some c.of.ensures.value ∙ ap (option_map head_of) found) }

pub returns-in-None : goal.returns-in-None
returns-in-None c =
    let found = c.in-None.ensures.value ∙ ap (λ (ms : List Message). last_or None (filter (λ m. nat_le m.seq c.args.seq) ms)) c.by_sequence.ensures.value in
    record { value = rw (← c.self.view_is) (ap (option_map head_of) found) }
