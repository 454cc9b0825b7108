use Rattle.std.proofs.Common.{ap, ◌∙◌}
use Rattle.std.specs.Prelude.{is_some}
use Rattle.consumer_progress.proofs.Seqs.{some_found}
use Rattle.replayed_consumer.proofs.tables.has_seq.Goals as goal

pub returns : goal.returns
returns c = record { value = c.is_some.ensures ∙ ap is_some c.get.ensures.value ∙ some_found c.args.seq c.args.table.now }
