use Rattle.block_table.proofs.Entries.{above_from}
use Rattle.block_table.proofs.messages.Messages.is_above.Goals as goal

pub returns : goal.returns
returns c = record { value = above_from c.args.seq c.args.self.now c.at_or_after.result c.is_none.result c.at_or_after.ensures.value c.is_none.ensures }
