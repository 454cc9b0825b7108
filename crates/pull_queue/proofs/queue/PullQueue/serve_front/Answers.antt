use Rattle.std.proofs.Common.{refl, arith}
use Rattle.pull_queue.proofs.Tallies.{kept_served}
use Rattle.pull_queue.proofs.queue.PullQueue.serve_front.Goals as goal

pub invariant_of-self-2 : goal.invariant_of-self-2
invariant_of-self-2 c =
    let i = c.self.inside in
    kept_served i.next c.next_of.result c.earlier-self-inside.result i.no_waits i.pulls.items c.in-Some.pull.now c.serve.new.pull c.args.now c.args.size c.self.invariant (omega (arith, c.in-Some.ensures.variant.0 refl)) c.in-Some.ensures.value c.serve.ensures.value c.next_of.ensures.value c.earlier-self-inside.ensures.value
