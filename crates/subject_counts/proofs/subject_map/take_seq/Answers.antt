use Rattle.std.proofs.Common.{sym, None}
use Rattle.std.proofs.lemmas.Bool.{OnTrue_at}
use Rattle.subject_counts.proofs.Replacing.{Replaces, replaces_by}
use Rattle.subject_counts.proofs.Changes.{keeps, filled_with, drops_after}
use Rattle.subject_counts.proofs.subject_map.take_seq.Goals as goal

replaced : (c : goal.Joined-remove) → Replaces c.drop_under.new.subjects c.remove.new.self c.args.subject.now None
replaced c = replaces_by c.args.subject.now c.drop_under.new.subjects c.remove.new.self None c.remove.ensures.updates

pub returns-then-drop_under-clause-dropped : goal.returns-then-drop_under-clause-dropped
returns-then-drop_under-clause-dropped c =
    drops_after c.args.subjects.now c.drop_under.new.subjects c.remove.new.self c.args.subject.now c.args.seq c.drop_under.ensures.dropped
    (keeps c.drop_under.new.subjects c.remove.new.self c.args.subject.now None (replaced c) (sym (OnTrue_at c.if-drop_under.true c.drop_under.ensures.bare)))

pub returns-then-drop_under-clause-filled : goal.returns-then-drop_under-clause-filled
returns-then-drop_under-clause-filled c = filled_with c.drop_under.new.subjects c.remove.new.self c.args.subject.now None (replaced c) c.drop_under.ensures.others tt
