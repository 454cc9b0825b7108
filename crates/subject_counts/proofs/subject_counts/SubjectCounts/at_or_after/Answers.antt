use Rattle.subject_counts.proofs.Replacing.{keys_found}
use Rattle.std.proofs.Common.{Some, None, ap, ◌∙◌, find, nat_le}
use Rattle.subject_counts.proofs.subject_counts.SubjectCounts.at_or_after.Goals as goal

-- src/subject_counts.rt:71:20
pub returns-in_err-get : goal.returns-in_err-get
returns-in_err-get c = record { value = c.from_residual.ensures ∙ ap (find (λ n. nat_le c.args.seq n)) (keys_found c.self.inside.subjects c.args.self.now c.args.subject.now None c.self.view_is c.in_err-get.ensures.value) }

-- src/subject_counts.rt:68:5
pub returns : goal.returns
returns c = record { value = c.first_from.ensures.value ∙ ap (find (λ n. nat_le c.args.seq n)) (keys_found c.self.inside.subjects c.args.self.now c.args.subject.now (Some c.in_ok-get.field-0.now) c.self.view_is c.in_ok-get.ensures.value) }
