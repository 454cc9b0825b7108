use Rattle.js_base.proofs.Meeting.{same_self}
use Rattle.std.proofs.Common.{rules, filter, not, ◌==◌, ◌∙◌, ap, sym, subst, Some}
use Rattle.subject_counts.specs.Sequences.{DropsSeq}
use Rattle.subject_counts.specs.SubjectMaps.{IsFilledBut, shown}
use Rattle.std.proofs.lemmas.Bool.{OnTrue_from, OnFalse_from}
use Rattle.subject_counts.proofs.Replacing.{Replaces, replaces_by}
use Rattle.subject_counts.proofs.Changes.{drops, seqs_here, filled_but, filled_with, filled_all_but, seqs_there, filled_there, drops_none, none_left, some_left}
use Rattle.subject_counts.proofs.subject_map.drop_under.Goals as goal

pub drop_seq-requires : goal.drop_seq-requires
drop_seq-requires c = record { ordered = (filled_there c.args.subjects.now c.args.subject.now c.in-Some.set.now c.in-Some.ensures.value c.requires.filled).ordered }

-- the sequences that are left
replaced : (c : goal.After-subjects-in-Some-1) → Replaces c.args.subjects.now (c.get_mut.follows.lender c.drop_seq.new.set) c.args.subject.now (Some c.drop_seq.new.set)
replaced c = replaces_by c.args.subject.now c.args.subjects.now (c.get_mut.follows.lender c.drop_seq.new.set) (Some c.drop_seq.new.set) ((c.get_mut.follows.holds c.drop_seq.new.set).3 (search rules))

others : (c : goal.After-subjects-in-Some-1) → IsFilledBut (c.get_mut.follows.lender c.drop_seq.new.set) c.args.subject.now
others c = filled_but c.args.subjects.now (c.get_mut.follows.lender c.drop_seq.new.set) c.args.subject.now (Some c.drop_seq.new.set) (replaced c) c.requires.filled

pub returns-in-Some-clause-dropped : goal.returns-in-Some-clause-dropped
returns-in-Some-clause-dropped c =
    drops c.args.subjects.now (c.get_mut.follows.lender c.drop_seq.new.set) c.args.subject.now (Some c.drop_seq.new.set) (replaced c) c.args.seq
    (c.drop_seq.ensures.left ∙ ap (filter (λ n. not (n == c.args.seq))) (sym (seqs_there c.args.subjects.now c.args.subject.now c.in-Some.set.now c.in-Some.ensures.value)))

pub returns-in-Some-clause-bare : goal.returns-in-Some-clause-bare
returns-in-Some-clause-bare c =
    OnTrue_from c.drop_seq.result _
    (λ e. seqs_here c.args.subjects.now (c.get_mut.follows.lender c.drop_seq.new.set) c.args.subject.now (Some c.drop_seq.new.set) (replaced c) c.args.subject.now (same_self c.args.subject.now)
    ∙ none_left c.drop_seq.new.set.keys (sym c.drop_seq.ensures.bare ∙ e))

pub returns-in-Some-clause-others : goal.returns-in-Some-clause-others
returns-in-Some-clause-others c = others c

pub returns-in-Some-clause-filled : goal.returns-in-Some-clause-filled
returns-in-Some-clause-filled c =
    OnFalse_from c.drop_seq.result _
    (λ e. filled_with c.args.subjects.now (c.get_mut.follows.lender c.drop_seq.new.set) c.args.subject.now (Some c.drop_seq.new.set) (replaced c)
    (filled_all_but c.args.subjects.now c.args.subject.now c.requires.filled)
    (record { ordered = c.drop_seq.ensures.ordered; some = some_left c.drop_seq.new.set.keys (sym c.drop_seq.ensures.bare ∙ e) }))

pub returns-in-None-clause-dropped : goal.returns-in-None-clause-dropped
returns-in-None-clause-dropped c =
    subst (λ left. DropsSeq (shown c.args.subjects.now) (shown left) c.args.subject.now c.args.seq) (sym c.get_mut.follows.holds-at-none)
    (drops_none c.args.subjects.now c.args.subject.now c.args.seq (sym c.in-None.ensures.value))
