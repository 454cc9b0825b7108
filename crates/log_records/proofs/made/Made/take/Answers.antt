use Rattle.std.proofs.Common.{IsTrue, subst}
use Rattle.op_records.specs.Allowed.{may_stand}
use Rattle.op_records.specs.declared.record.Record.{Record}
use Rattle.log_records.proofs.made.Made.take.Goals as goal

pub put-requires : goal.put-requires
put-requires c = record { sound = c.requires.sound; allowed = subst (λ (r : Record). IsTrue (may_stand r)) c.in-Put.is c.requires.allowed }

pub returns-in-Put : goal.returns-in-Put
returns-in-Put c = record { taken = rw c.in-Put.is c.put.ensures.taken; fault = rw c.in-Put.is c.put.ensures.fault }

pub change-requires : goal.change-requires
change-requires c = record { sound = c.requires.sound; allowed = subst (λ (r : Record). IsTrue (may_stand r)) c.in-Change.is c.requires.allowed }

pub returns-in-Change : goal.returns-in-Change
returns-in-Change c = record { taken = rw c.in-Change.is c.change.ensures.taken; fault = rw c.in-Change.is c.change.ensures.fault }
