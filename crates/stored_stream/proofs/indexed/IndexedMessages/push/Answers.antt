use Rattle.std.proofs.Common.{◌≡◌, ◌<◌, All, ◌∙◌}
use Rattle.js_model.specs.declared.stream.Message.{Message}
use Rattle.subject_counts.specs.Sequences.{AddsSeq, DropsSeq}
use Rattle.stored_stream.proofs.Indexing.{above_subject, indexed_more, indexed_undone}
use Rattle.stored_stream.proofs.indexed.IndexedMessages.push.Goals as goal

pub add-requires : goal.add-requires
add-requires c =
    let m = c.args.message in
    let above : All (λ (x : Message). x.seq < m.seq) c.self.inside.messages = rw c.self.view_is c.requires.above in
    let is : c.in_ok-subject.subject ≡ m.subject = c.in_ok-subject.ensures.cases in
    record { above = rw is (above_subject c.self.inside.subjects c.self.inside.messages m c.self.invariant above) }

pub invariant_of-self-in-Ok : goal.invariant_of-self-in-Ok
invariant_of-self-in-Ok c =
    let m = c.args.message in
    let above : All (λ (x : Message). x.seq < m.seq) c.self.inside.messages = rw c.self.view_is c.requires.above in
    let is : c.in_ok-subject.subject ≡ m.subject = c.in_ok-subject.ensures.cases in
    let adds : AddsSeq c.self.inside.subjects c.add.new.self m.subject m.seq = rw is at c.in_ok-add.ensures.ok in
    rw c.in-Ok.ensures.ok (indexed_more c.self.inside.subjects c.add.new.self c.self.inside.messages m c.self.invariant above adds)

pub invariant_of-self-in-Err : goal.invariant_of-self-in-Err
invariant_of-self-in-Err c =
    let m = c.args.message in
    let above : All (λ (x : Message). x.seq < m.seq) c.self.inside.messages = rw c.self.view_is c.requires.above in
    let is : c.in_ok-subject.subject ≡ m.subject = c.in_ok-subject.ensures.cases in
    let adds : AddsSeq c.self.inside.subjects c.add.new.self m.subject m.seq = rw is at c.in_ok-add.ensures.ok in
    let slice : c.as_slice.result.now ≡ m.subject = c.as_slice.ensures ∙ is in
    let drops : DropsSeq c.add.new.self c.remove.new.self m.subject m.seq = rw slice at c.remove.ensures.dropped in
    rw c.in-Err.ensures.err (indexed_undone c.self.inside.subjects c.add.new.self c.remove.new.self c.self.inside.messages m c.self.invariant above adds drops)
