use Rattle.std.proofs.Common.{List, ◌+◌, ap, ◌∙◌}
use Rattle.std.specs.Prelude.{find, nat_le}
use Rattle.js_model.specs.declared.stream.Message.{Message}
use Rattle.js_model.specs.Streams.{seqs}
use Rattle.stored_stream.specs.Indexed.{on_subject}
use Rattle.stored_stream.proofs.Counted.{one_head_of}
use Rattle.stored_stream.proofs.heads.head_of.Goals as goal

pub returns : goal.returns
returns c =
    let s = c.args.stream.now in
    let subject = c.args.subject.now in
    let first = c.at_or_after.ensures.value ∙ ap (λ (ms : List Message). find (λ n. nat_le 0 n) (seqs (on_subject subject ms))) c.messages.ensures.value in
    record { value = one_head_of subject s.messages (s.last + 1) c.new-heads.result c.put_head.new.heads c.at_or_after.result c.requires.sound.ascends c.new-heads.ensures.empty first c.in_ok-put_head.ensures.ok }
