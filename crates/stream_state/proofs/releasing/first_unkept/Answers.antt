use Rattle.std.proofs.Common.{◌≡◌, ◌+◌, ◌&&◌, not, true, false, ap, sym, ◌∙◌, arith}
use Rattle.std.specs.Prelude.{find, nat_le}
use Rattle.std.proofs.lemmas.Bool.{le-leb}
use Rattle.js_model.specs.declared.stream.Message.{Message}
use Rattle.js_model.specs.declared.stream.Stream.{Stream}
use Rattle.stored_stream.proofs.Finding.{found_within, found_from}
use Rattle.stored_stream.proofs.Selections.{found_seq, passed_seq, none_seq}
use Rattle.stream_state.proofs.Unkept.{is_loose, keeps}
use Rattle.stream_state.proofs.Walks.{past_last}
use Rattle.stream_state.proofs.releasing.first_unkept.Goals as goal

pub returns-then-last-message : goal.returns-then-last-message
returns-then-last-message c =
    let s = c.args.stream.now in
    let found = c.in-Some.ensures.value ∙ ap (λ (x : Stream). find (λ (m : Message). nat_le c.loop-message.from m.seq) x.messages) c.stored.ensures.value in
    record { value = past_last (λ m. not (keeps s m)) c.args.last c.loop-message.from 1 (s.last + 1) c.in-Some.message.now s.messages c.requires.sound.sound.ascends found c.if-last-message.true ∙ c.loop-message.invariant }

pub returns-then-not-keeps : goal.returns-then-not-keeps
returns-then-not-keeps c =
    let s = c.args.stream.now in
    let m = c.in-Some.message.now in
    let found = c.in-Some.ensures.value ∙ ap (λ (x : Stream). find (λ (m : Message). nat_le c.loop-message.from m.seq) x.messages) c.stored.ensures.value in
    let yes : is_loose s c.args.last m ≡ true = ap (λ b. b && not (keeps s m)) (le-leb m.seq c.args.last c.if-last-message.false) ∙ ap not (sym c.keeps.ensures.value ∙ c.if-not-keeps.true) in
    record { value = found_seq (is_loose s c.args.last) c.loop-message.from m s.messages found yes ∙ c.loop-message.invariant }

pub overflow_add-from : goal.overflow_add-from
overflow_add-from c =
    let s = c.args.stream.now in
    let found = c.in-Some.ensures.value ∙ ap (λ (x : Stream). find (λ (m : Message). nat_le c.loop-message.from m.seq) x.messages) c.stored.ensures.value in
    let within = found_within s _ c.in-Some.message.now c.requires.sound.sound found in
    omega (arith, within, c.requires.sound.sound.last)

pub loop-message-smaller : goal.loop-message-smaller
loop-message-smaller c =
    let s = c.args.stream.now in
    let found = c.in-Some.ensures.value ∙ ap (λ (x : Stream). find (λ (m : Message). nat_le c.loop-message.from m.seq) x.messages) c.stored.ensures.value in
    let within = found_within s _ c.in-Some.message.now c.requires.sound.sound found in
    let from = found_from s.messages c.loop-message.from c.in-Some.message.now found in
    omega (arith, within, from)

pub loop-message-preserved : goal.loop-message-preserved
loop-message-preserved c =
    let s = c.args.stream.now in
    let m = c.in-Some.message.now in
    let found = c.in-Some.ensures.value ∙ ap (λ (x : Stream). find (λ (m : Message). nat_le c.loop-message.from m.seq) x.messages) c.stored.ensures.value in
    let no : is_loose s c.args.last m ≡ false = ap (λ b. b && not (keeps s m)) (le-leb m.seq c.args.last c.if-last-message.false) ∙ ap not (sym c.keeps.ensures.value ∙ c.if-not-keeps.false) in
    passed_seq (is_loose s c.args.last) c.loop-message.from 1 (s.last + 1) m s.messages c.requires.sound.sound.ascends found no ∙ c.loop-message.invariant

pub returns : goal.returns
returns c =
    let s = c.args.stream.now in
    let none = c.in_default.ensures.value ∙ ap (λ (x : Stream). find (λ (m : Message). nat_le c.loop-message.from m.seq) x.messages) c.stored.ensures.value in
    record { value = none_seq (is_loose s c.args.last) c.loop-message.from s.messages none ∙ c.loop-message.invariant }
