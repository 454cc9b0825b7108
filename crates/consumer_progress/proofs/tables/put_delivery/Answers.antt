use Rattle.std.proofs.Common.{◌+◌, length, ap, arith}
use Rattle.consumer_progress.proofs.Filling.{one_longer}
use Rattle.consumer_progress.proofs.tables.put_delivery.Goals as goal

pub returns-clause-few : goal.returns-clause-few
returns-clause-few c = omega (arith, ap length c.in_ok-put.ensures.ok, one_longer c.args.table.now (record { seq = c.args.seq; count = c.count_in-count.result + 1; due = c.in-Some.due }))
