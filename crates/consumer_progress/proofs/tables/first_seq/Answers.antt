use Rattle.std.proofs.Common.{◌∙◌}
use Rattle.consumer_progress.proofs.Seqs.{first_found}
use Rattle.consumer_progress.proofs.tables.first_seq.Goals as goal

pub returns : goal.returns
returns c = record { value = c.first.ensures.value ∙ first_found c.args.table.now }
