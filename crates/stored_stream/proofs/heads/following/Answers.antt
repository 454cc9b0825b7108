use Rattle.std.proofs.Common.{List, ◌+◌, ◌==◌, ap, ◌∙◌, arith}
use Rattle.std.specs.Prelude.{find, nat_le}
use Rattle.js_base.specs.Bytes.{Bytes}
use Rattle.js_model.specs.declared.stream.Message.{Message}
use Rattle.js_model.specs.Streams.{seqs}
use Rattle.stored_stream.specs.Heads.{next_after}
use Rattle.stored_stream.specs.Indexed.{on_subject}
use Rattle.stored_stream.proofs.Finding.{found_within}
use Rattle.stored_stream.proofs.Selections.{next_on_subject}
use Rattle.stored_stream.proofs.heads.following.Goals as goal

pub overflow_add-message : goal.overflow_add-message
overflow_add-message c =
    let within = found_within c.args.stream.now (λ (m : Message). m.seq == c.args.seq) c.in_ok-message.message.now c.requires.sound c.in_ok-message.ensures.value in
    omega (arith, within, c.requires.sound.last)

pub returns : goal.returns
returns c =
    let s = c.args.stream.now in
    let m = c.in_ok-message.message.now in
    record {
      value = c.at_or_after.ensures.value
          ∙ ap (λ (ms : List Message). find (λ n. nat_le (m.seq + 1) n) (seqs (on_subject c.as_slice.result.now ms))) c.messages.ensures.value
          ∙ ap (λ (t : Bytes). find (λ n. nat_le (m.seq + 1) n) (seqs (on_subject t s.messages))) c.as_slice.ensures
          ∙ next_on_subject s.messages m.subject (m.seq + 1)
          ∙ ap (next_after s.messages) c.in_ok-message.ensures.value;
    }
