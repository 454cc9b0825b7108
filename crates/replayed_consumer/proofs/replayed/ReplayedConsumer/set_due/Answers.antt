use Rattle.std.proofs.Common.{◌<◌, ◌^◌, arith}
use Rattle.replayed_consumer.proofs.Keeping.{due_keeps}
use Rattle.replayed_consumer.proofs.Progressing.{due_replayable}
use Rattle.replayed_consumer.proofs.replayed.ReplayedConsumer.set_due.Goals as goal

pub invariant_of-self : goal.invariant_of-self
invariant_of-self c = rw c.set_due.ensures.value (due_replayable c.args.seq c.args.due _ c.self.invariant)

pub returns-clause-keeps : goal.returns-clause-keeps
returns-clause-keeps c =
    let small : c.args.due < 2 ^ 62 = omega (arith, c.as_nanos.ensures.value, c.as_nanos.ensures.bound) in
    rw (c.set_due.ensures.value, ← c.self.view_is) (due_keeps c.args.seq c.args.due _ small)
