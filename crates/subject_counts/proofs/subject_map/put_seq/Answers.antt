use Rattle.std.proofs.lemmas.Result.{on_ok_weaker, on_err_weaker}
use Rattle.std.proofs.Common.{rules, ◌∙◌, ap, sym, subst, Some, ◌≡◌, [], ◌∷◌, ◌++◌}
use Rattle.subject_counts.specs.Sequences.{seqs_of, IsAbove}
use Rattle.subject_counts.specs.SubjectMaps.{shown}
use Rattle.subject_counts.proofs.Replacing.{Replaces, replaces_by}
use Rattle.subject_counts.proofs.Changes.{adds, keeps, filled_with, filled_all_but, seqs_there, filled_there, pushed_some}
use Rattle.subject_counts.proofs.subject_map.put_seq.Goals as goal

pub push_seq-requires : goal.push_seq-requires
push_seq-requires c = record { above = subst (IsAbove c.args.seq) (seqs_there c.args.subjects.now c.args.subject.now c.in-Some.set.now c.in-Some.ensures.value) c.requires.above }

replaced : (c : goal.After-subjects-in-Some-1) → Replaces c.args.subjects.now (c.get_mut.follows.lender c.push_seq.new.set) c.args.subject.now (Some c.push_seq.new.set)
replaced c = replaces_by c.args.subject.now c.args.subjects.now (c.get_mut.follows.lender c.push_seq.new.set) (Some c.push_seq.new.set) ((c.get_mut.follows.holds c.push_seq.new.set).3 (search rules))

-- the sequences that were there
before : (c : goal.After-subjects-in-Some-1) → c.in-Some.set.now.keys ≡ seqs_of (shown c.args.subjects.now) c.args.subject.now
before c = sym (seqs_there c.args.subjects.now c.args.subject.now c.in-Some.set.now c.in-Some.ensures.value)

pub returns-in-Some-clause-ok : goal.returns-in-Some-clause-ok
returns-in-Some-clause-ok c =
    on_ok_weaker c.push_seq.result
    (λ e. adds c.args.subjects.now (c.get_mut.follows.lender c.push_seq.new.set) c.args.subject.now (Some c.push_seq.new.set) (replaced c) c.args.seq (e ∙ ap (λ ns. ns ++ c.args.seq ∷ []) (before c)))
    c.push_seq.ensures.ok

pub returns-in-Some-clause-err : goal.returns-in-Some-clause-err
returns-in-Some-clause-err c =
    on_err_weaker c.push_seq.result
    (λ e. keeps c.args.subjects.now (c.get_mut.follows.lender c.push_seq.new.set) c.args.subject.now (Some c.push_seq.new.set) (replaced c) (e ∙ before c))
    c.push_seq.ensures.err

pub returns-in-Some-clause-filled : goal.returns-in-Some-clause-filled
returns-in-Some-clause-filled c =
    let was = filled_there c.args.subjects.now c.args.subject.now c.in-Some.set.now c.in-Some.ensures.value c.requires.filled in
    filled_with c.args.subjects.now (c.get_mut.follows.lender c.push_seq.new.set) c.args.subject.now (Some c.push_seq.new.set) (replaced c)
    (filled_all_but c.args.subjects.now c.args.subject.now c.requires.filled)
    (record { ordered = c.push_seq.ensures.ordered; some = pushed_some c.push_seq.result c.in-Some.set.now.keys c.push_seq.new.set.keys c.args.seq c.push_seq.ensures.ok c.push_seq.ensures.err was.some })
