use Rattle.std.proofs.Common.{List, subst}
use Rattle.js_base.specs.Bytes.{same}
use Rattle.js_base.specs.Subjects.{matches, tokens}
use Rattle.js_model.specs.declared.stream.Message.{Message}
use Rattle.stored_stream.specs.Heads.{AreHeads}
use Rattle.stored_stream.proofs.purging.first_named.Goals as goal

pub returns-in_ok-heads-in-Subject : goal.returns-in_ok-heads-in-Subject
returns-in_ok-heads-in-Subject c = record { value = rw c.in-Subject.is (c.first_of_heads.ensures.value (λ t. same t c.in-Subject.subject.now) c.in_ok-heads-in-Subject.ensures.value) }

pub returns-in_ok-heads-in-Pattern : goal.returns-in_ok-heads-in-Pattern
returns-in_ok-heads-in-Pattern c =
    let pattern = c.in-Pattern.pattern.now in
    let heads = subst (λ (ms : List Message). AreHeads (λ t. matches (tokens pattern) (tokens t)) ms 0 c.in_ok-heads-in-Pattern.heads) c.messages.ensures.value c.in_ok-heads-in-Pattern.ensures.value in
    record { value = rw c.in-Pattern.is (c.first_of_heads-in-Pattern.ensures.value (λ t. matches (tokens pattern) (tokens t)) heads) }
