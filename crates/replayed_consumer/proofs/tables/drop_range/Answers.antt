use Rattle.std.proofs.Common.{not, ap, ◌∙◌}
use Rattle.consumer_progress.specs.Progresses.{seqs_of}
use Rattle.consumer_progress.proofs.Seqs.{seqs_filter}
use Rattle.effects.specs.Ranges.{is_within}
use Rattle.replayed_consumer.proofs.tables.drop_range.Goals as goal

pub returns-clause-seqs : goal.returns-clause-seqs
returns-clause-seqs c = ap seqs_of c.forget.ensures.left ∙ seqs_filter (λ n. not (is_within c.args.low c.args.high n)) c.args.table.now
