use Rattle.std.proofs.Common.{rules}
use Rattle.session.proofs.Stopped.{halted_fault, halted_op, halted_unread}
use Rattle.session.proofs.conversation.carry_next.Goals as goal

pub returns-in-Err-carry-clause-carries : goal.returns-in-Err-carry-clause-carries
returns-in-Err-carry-clause-carries g c =
    let n = rw c.in-Ok-Some.field-0-is at c.in-Ok-Some.ensures.gives in
    halted_op _ _ _ _ _ _ _ _ _ c.in-Ok-Some.op c.in-Err-carry.stop n.1 c.in-Ok-Some.ensures.total c.in-Err-carry.ensures.carries

pub returns-in-Err-NoMemory-clause-carries : goal.returns-in-Err-NoMemory-clause-carries
returns-in-Err-NoMemory-clause-carries g c = halted_unread _ _ _ _ _ _ _ (g.met.D.Desk.made_nothing c.args.desk.now)

pub returns-in-Err-clause-carries : goal.returns-in-Err-clause-carries
returns-in-Err-clause-carries g c = halted_fault _ _ _ _ _ _ c.in-Err.fault (g.met.D.Desk.made_nothing c.args.desk.now) (search rules)
