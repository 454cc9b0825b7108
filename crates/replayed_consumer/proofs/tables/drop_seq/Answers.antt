use Rattle.std.proofs.Common.{◌==◌, not, ap, ◌∙◌}
use Rattle.consumer_progress.specs.Progresses.{seqs_of}
use Rattle.consumer_progress.proofs.Seqs.{seqs_filter}
use Rattle.replayed_consumer.proofs.tables.drop_seq.Goals as goal

pub returns : goal.returns
returns c = record { seqs = ap seqs_of c.ack.ensures.left ∙ seqs_filter (λ n. not (n == c.args.seq)) c.args.table.now }
