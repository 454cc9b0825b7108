use Rattle.subject_counts.proofs.SequenceSets.{insert_key-above}
use Rattle.std.proofs.Common.{◌∙◌}
use Rattle.subject_counts.proofs.sequence_set.push_seq.Goals as goal

-- src/sequence_set.rt:14:1
pub returns-clause-ok : goal.returns-clause-ok
returns-clause-ok c = c.in_ok-insert.ensures.keys ∙ insert_key-above c.args.seq c.args.set.now.keys c.requires.above
