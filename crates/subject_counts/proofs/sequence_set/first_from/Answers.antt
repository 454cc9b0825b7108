use Rattle.subject_counts.proofs.SequenceSets.{first_from_is}
use Rattle.std.proofs.Common.{◌∙◌}
use Rattle.subject_counts.proofs.sequence_set.first_from.Goals as goal

-- src/sequence_set.rt:47:1
pub returns : goal.returns
returns c = record { value = c.copied.ensures ∙ first_from_is c.args.seq c.args.set.now.keys c.range.result c.next.new.self c.next.result (c.range.ensures.between tt) c.next.ensures.steps }
