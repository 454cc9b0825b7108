use Rattle.op_records.specs.Spelling.{number}
use Rattle.op_records.proofs.Written.{at_ok}
use Rattle.state_snapshot.specs.Spelling.{spelled_pending}
use Rattle.state_snapshot.proofs.Puts.{two_and_one}
use Rattle.state_snapshot.proofs.entries.PendingEntry.put.Goals as goal

pub returns : goal.returns
unfolding spelled_pending
returns c =
    let p = c.args.self.now in
    let parts = two_and_one c.args.into.now.items c.put_two.new.into.items c.put_u64.new.into.items (number p.seq) (number p.count) (number p.due) c.in_ok-put_two.ensures.ok in
    record { ok = at_ok c.put_u64.result parts (rw c.as_nanos.ensures.value at c.put_u64.ensures.ok) }
