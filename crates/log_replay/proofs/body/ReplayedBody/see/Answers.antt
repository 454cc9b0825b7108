use Rattle.std.proofs.Common.{◌<◌, ◌≤◌, ◌^◌, sym, subst, arith}
use Rattle.log_replay.specs.Made.{KeepsStorable}
use Rattle.log_replay.proofs.Ids.{kept_later, seen_is}
use Rattle.log_replay.proofs.Streams.{seen_keeps}
use Rattle.log_replay.proofs.body.ReplayedBody.see.Goals as goal

pub invariant_of-self : goal.invariant_of-self
invariant_of-self c =
    let i = c.self.inside in
    let later : i.moment ≤ c.args.moment = rw (← c.self.view_is) at c.requires.later in
    rw c.expire.ensures.left (kept_later i.config i.moment c.args.moment i.ids later c.self.invariant)

pub returns-clause-value : goal.returns-clause-value
returns-clause-value c =
    let i = c.self.inside in
    rw (c.expire.ensures.left, ← c.self.view_is) (seen_is i.made i.moment i.last c.args.moment i.config i.messages i.ids i.consumers.items c.self.invariant)

pub returns-clause-keeps : goal.returns-clause-keeps
returns-clause-keeps c =
    let small : c.args.moment < 2 ^ 62 = omega (arith, c.as_nanos.ensures.value, c.as_nanos.ensures.bound) in
    subst (KeepsStorable c.args.self.now) (sym (returns-clause-value c)) (seen_keeps c.args.self.now c.args.moment small)
