use Rattle.std.proofs.Common.{◌<◌, length, arith}
use Rattle.consumer_progress.specs.Progresses.{seqs_of}
use Rattle.consumer_progress.proofs.Filling.{ascends_same}
use Rattle.replayed_consumer.proofs.GivingUp.{popped_replayable, popped_same}
use Rattle.replayed_consumer.proofs.replayed.ReplayedConsumer.drop_least.Goals as goal

pub pop_first-requires : goal.pop_first-requires
pop_first-requires c = record { ascend = ascends_same 0 c.self.inside.cursor (seqs_of c.self.inside.given_up) c.self.invariant.progress.given_up }

pub invariant_of-self : goal.invariant_of-self
invariant_of-self c =
    let i = c.self.inside in
    popped_replayable i.name i.made i.config i.cursor i.dseq i.picks i.pending i.given_up c.self.invariant c.pop_first.result c.pop_first.new.table c.pop_first.ensures.first

pub returns-clause-same : goal.returns-clause-same
returns-clause-same c =
    let i = c.self.inside in
    let many : 65536 < length i.given_up = omega (arith, c.len.ensures.value, c.if-len-le-MOST_GIVEN_UP.false) in
    rw (← c.self.view_is) (popped_same i.name i.made i.config i.cursor i.dseq i.picks i.pending i.given_up c.self.invariant c.pop_first.result c.pop_first.new.table c.pop_first.ensures.first many)
