use Rattle.std.proofs.Common.{◌==◌, not, ap, ◌∙◌}
use Rattle.consumer_progress.specs.Progresses.{seqs_of}
use Rattle.consumer_progress.proofs.Seqs.{any_seq, seqs_filter}
use Rattle.consumer_progress.proofs.tables.drop_seq.Goals as goal

pub returns-clause-was : goal.returns-clause-was
returns-clause-was c = c.ack.ensures.was ∙ any_seq c.args.seq c.args.table.now

pub returns-clause-seqs : goal.returns-clause-seqs
returns-clause-seqs c = ap seqs_of c.ack.ensures.left ∙ seqs_filter (λ n. not (n == c.args.seq)) c.args.table.now
