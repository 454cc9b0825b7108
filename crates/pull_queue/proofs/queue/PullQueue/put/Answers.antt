use Rattle.std.proofs.Common.{◌<◌, ◌^◌, length, arith}
use Rattle.pull_queue.proofs.Tallies.{kept_more}
use Rattle.pull_queue.proofs.queue.PullQueue.put.Goals as goal

pub invariant_of-self-2 : goal.invariant_of-self-2
invariant_of-self-2 c =
    let i = c.self.inside in
    let few : length i.pulls.items < 2 ^ 62 = omega (arith, i.pulls.ok.0) in
    rw (c.in_ok-push_back.ensures.items, c.saturating_add-self-inside.ensures)
    (kept_more i.next c.next_of.result c.earlier-next.result i.no_waits c.no_waits_of-own.result i.pulls.items c.args.pull c.self.invariant few c.no_waits_of-own.ensures.value c.next_of.ensures.value c.earlier-next.ensures.value)
