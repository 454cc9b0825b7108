use Rattle.std.proofs.Common.{◌≡◌, ◌+◌, true, false, ap, sym, ◌∙◌, arith}
use Rattle.js_model.specs.declared.stream.Message.{Message}
use Rattle.retention.specs.Over.{is_over_on}
use Rattle.stored_stream.proofs.Finding.{found_within, found_from}
use Rattle.stored_stream.proofs.Selections.{found_seq, passed_seq, none_seq}
use Rattle.stored_stream.proofs.crowding.first_crowded.Goals as goal

pub overflow_add-from : goal.overflow_add-from
overflow_add-from c =
    let within = found_within c.args.stream.now _ c.in-Some.message.now c.requires.sound c.in-Some.ensures.value in
    omega (arith, within, c.requires.sound.last)

pub loop-message-preserved : goal.loop-message-preserved
loop-message-preserved c =
    let s = c.args.stream.now in
    let t = λ (m : Message). is_over_on s m.subject in
    let no : t c.in-Some.message.now ≡ false = sym (c.is_crowded.ensures.value ∙ ap (is_over_on s) c.as_slice.ensures) ∙ c.if-is_crowded.false in
    passed_seq t c.loop-message.from 1 (s.last + 1) c.in-Some.message.now s.messages c.requires.sound.ascends c.in-Some.ensures.value no ∙ c.loop-message.invariant

pub loop-message-smaller : goal.loop-message-smaller
loop-message-smaller c =
    let within = found_within c.args.stream.now _ c.in-Some.message.now c.requires.sound c.in-Some.ensures.value in
    let from = found_from c.args.stream.now.messages c.loop-message.from c.in-Some.message.now c.in-Some.ensures.value in
    omega (arith, within, from)

pub returns-then-is_crowded : goal.returns-then-is_crowded
returns-then-is_crowded c =
    let s = c.args.stream.now in
    let t = λ (m : Message). is_over_on s m.subject in
    let yes : t c.in-Some.message.now ≡ true = sym (c.is_crowded.ensures.value ∙ ap (is_over_on s) c.as_slice.ensures) ∙ c.if-is_crowded.true in
    record { value = found_seq t c.loop-message.from c.in-Some.message.now s.messages c.in-Some.ensures.value yes ∙ c.loop-message.invariant }

pub returns : goal.returns
returns c =
    let s = c.args.stream.now in
    let t = λ (m : Message). is_over_on s m.subject in
    record { value = none_seq t c.loop-message.from s.messages c.in_default.ensures.value ∙ c.loop-message.invariant }
