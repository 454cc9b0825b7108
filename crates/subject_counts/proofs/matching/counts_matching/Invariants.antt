use Rattle.std.proofs.Common.{length}
use Rattle.subject_counts.specs.Sequences.{counts_matching}
use Rattle.subject_counts.specs.SubjectMaps.{shown}
use Rattle.subject_counts.proofs.Matched.{Walks}
use Rattle.subject_counts.proofs.matching.counts_matching.Given as goal

abbrev pub invariant-loop-subject : goal.invariant-loop-subject
invariant-loop-subject l = Walks l.pattern l.start (counts_matching l.pattern (shown l.subjects)) l.found.items l.left

abbrev pub decreases-loop-subject : goal.decreases-loop-subject
decreases-loop-subject l = length l.left
