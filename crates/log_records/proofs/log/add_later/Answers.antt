use Rattle.log_records.specs.Holding.{made_in}
use Rattle.log_records.proofs.Telling.{later_told, placed_added}
use Rattle.log_records.proofs.log.add_later.Goals as goal

pub returns-in-Ok-offset_of-clause-added : goal.returns-in-Ok-offset_of-clause-added
returns-in-Ok-offset_of-clause-added c =
    placed_added c.args.gate (made_in c.args.made) c.args.records.now (made_in c.in-Ok.made) c.in-Ok.last c.in-Ok-offset_of.at c.in-Ok.ensures.added c.in-Ok-offset_of.ensures.value

pub returns-in-Err-clause-fault : goal.returns-in-Err-clause-fault
returns-in-Err-clause-fault c = later_told c.args.gate (made_in c.args.made) c.args.records.now c.in-Err.fault c.told.result c.in-Err.ensures.fault c.told.ensures.value
