use Rattle.std.proofs.Common.{refl, arith}
use Rattle.pull_queue.proofs.Tallies.{kept_rest}
use Rattle.pull_queue.proofs.queue.PullQueue.pop_front.Goals as goal

pub invariant_of-self : goal.invariant_of-self
invariant_of-self c =
    let i = c.self.inside in
    rw c.saturating_sub-self-inside.ensures
    (kept_rest i.next i.no_waits i.pulls.items c.pop_front.new.self.items c.in-Some.pull c.no_waits_of.result c.self.invariant (omega (arith, c.in-Some.ensures.variant.0 refl)) c.in-Some.ensures.lookup c.no_waits_of.ensures.value c.pop_front.ensures.rest)

pub invariant_of-self-in-Some-2 : goal.invariant_of-self-in-Some-2
invariant_of-self-in-Some-2 c =
    let i = c.self.inside in
    rw c.saturating_sub-self-inside.ensures
    (kept_rest i.next i.no_waits i.pulls.items c.pop_front.new.self.items c.in-Some.pull c.no_waits_of.result c.self.invariant (omega (arith, c.in-Some.ensures.variant.0 refl)) c.in-Some.ensures.lookup c.no_waits_of.ensures.value c.pop_front.ensures.rest)
