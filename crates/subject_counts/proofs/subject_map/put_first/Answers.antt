use Rattle.std.proofs.Common.{arith, length-append, ◌∙◌, ap, sym, subst, Some, [], ◌∷◌, ◌++◌}
use Rattle.subject_counts.proofs.Replacing.{Replaces, replaces_by}
use Rattle.subject_counts.proofs.Changes.{adds, filled_with, filled_all_but, seqs_absent}
use Rattle.subject_counts.proofs.subject_map.put_first.Goals as goal

-- the sequences of the new subject
replaced : (c : goal.Joined-branch-4) → Replaces c.args.subjects.now c.insert.new.self c.args.subject.now (Some c.push_seq.new.set)
replaced c =
    let text = c.in_ok-extend_from_slice.ensures.items ∙ ap (λ t. t ++ c.args.subject.now) c.new-key.ensures.items in
    subst (λ here. Replaces c.args.subjects.now c.insert.new.self here (Some c.push_seq.new.set)) text
    (replaces_by c.extend_from_slice.new.self.items c.args.subjects.now c.insert.new.self (Some c.push_seq.new.set) c.in_ok-insert.ensures.updates)

pub returns-clause-ok : goal.returns-clause-ok
returns-clause-ok c = adds c.args.subjects.now c.insert.new.self c.args.subject.now (Some c.push_seq.new.set) (replaced c) c.args.seq (c.in_ok-push_seq.ensures.ok ∙ ap (λ ns. ns ++ c.args.seq ∷ []) (c.new-set.ensures.empty ∙ sym (seqs_absent c.args.subjects.now c.args.subject.now c.requires.absent)))

pub returns-clause-filled : goal.returns-clause-filled
returns-clause-filled c = filled_with c.args.subjects.now c.insert.new.self c.args.subject.now (Some c.push_seq.new.set) (replaced c) (filled_all_but c.args.subjects.now c.args.subject.now c.requires.filled) (record { ordered = c.push_seq.ensures.ordered; some = rw c.in_ok-push_seq.ensures.ok (omega (arith, length-append c.new-set.result.keys (c.args.seq ∷ []))) })
