use Rattle.subject_counts.proofs.SequenceSets.{remove_key-filter}
use Rattle.std.proofs.Common.{◌∙◌}
use Rattle.subject_counts.proofs.sequence_set.drop_seq.Goals as goal

-- src/sequence_set.rt:24:1
pub returns-clause-left : goal.returns-clause-left
returns-clause-left c = c.remove.ensures.keys ∙ remove_key-filter c.args.seq c.args.set.now.keys c.requires.ordered
