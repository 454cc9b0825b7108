use Rattle.subject_counts.proofs.Replacing.{keys_found}
use Rattle.std.proofs.Common.{Some, None, ap, ◌∙◌}
use Rattle.stream_view.specs.Counting.{counts_of}
use Rattle.subject_counts.proofs.subject_counts.SubjectCounts.of.Goals as goal

-- src/subject_counts.rt:64:19
pub returns-in_err-get : goal.returns-in_err-get
returns-in_err-get c = record { value = c.from_residual.ensures ∙ ap counts_of (keys_found c.self.inside.subjects c.args.self.now c.args.subject.now None c.self.view_is c.in_err-get.ensures.value) }

-- src/subject_counts.rt:61:5
pub returns : goal.returns
returns c = record { value = c.counts_in.ensures.value ∙ ap counts_of (keys_found c.self.inside.subjects c.args.self.now c.args.subject.now (Some c.in_ok-get.field-0.now) c.self.view_is c.in_ok-get.ensures.value) }
