use Rattle.std.proofs.Common.{sym}
use Rattle.subject_counts.specs.Sequences.{DropsSeq}
use Rattle.stored_stream.proofs.Indexing.{indexed_less, none_less}
use Rattle.stored_stream.proofs.indexed.IndexedMessages.remove.Goals as goal

pub invariant_of-self : goal.invariant_of-self
invariant_of-self c =
    let i = c.self.inside in
    let drops : DropsSeq i.subjects c.remove-in-Some.new.self c.in-Some.message.subject c.args.seq = rw c.as_slice.ensures at c.remove-in-Some.ensures.dropped in
    rw c.in-Some.ensures.left (indexed_less i.subjects c.remove-in-Some.new.self i.messages c.args.seq c.in-Some.message c.self.invariant (sym c.in-Some.ensures.value) drops)

pub invariant_of-self-in-Some-2 : goal.invariant_of-self-in-Some-2
invariant_of-self-in-Some-2 c =
    let i = c.self.inside in
    let drops : DropsSeq i.subjects c.remove-in-Some.new.self c.in-Some.message.subject c.args.seq = rw c.as_slice.ensures at c.remove-in-Some.ensures.dropped in
    rw c.in-Some.ensures.left (indexed_less i.subjects c.remove-in-Some.new.self i.messages c.args.seq c.in-Some.message c.self.invariant (sym c.in-Some.ensures.value) drops)

pub invariant_of-self-in-None : goal.invariant_of-self-in-None
invariant_of-self-in-None c =
    let i = c.self.inside in
    rw c.in-None.ensures.left (rw (none_less i.messages c.args.seq (sym c.in-None.ensures.value)) c.self.invariant)
