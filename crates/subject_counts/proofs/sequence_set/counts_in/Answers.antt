use Rattle.subject_counts.proofs.SequenceSets.{counts_are}
use Rattle.std.proofs.Common.{Some, ◌∙◌, ap}
use Rattle.subject_counts.proofs.sequence_set.counts_in.Goals as goal

-- src/sequence_set.rt:34:1
pub returns : goal.returns
returns c = record { value = ap (λ n. Some (record { count = n; first = c.in_ok-first.field-0.now; last = c.in_ok-last.field-0.now })) c.len.ensures.len ∙ counts_are c.args.set.now.keys c.in_ok-first.field-0.now c.in_ok-last.field-0.now c.in_ok-first.ensures.first c.in_ok-last.ensures.last }
