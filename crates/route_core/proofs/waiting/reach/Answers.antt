use Rattle.std.proofs.Common.{sym, ◌∙◌, arith}
use Rattle.route_core.proofs.Lengths.{reached_all, reached_full, reaching_more, rest_is}
use Rattle.route_core.proofs.waiting.reach.Goals as goal

pub returns-then-len-room : goal.returns-then-len-room
returns-then-len-room c = record {
  value = reached_full c.args.max c.args.frames.now c.loop-frame.count c.loop-frame.room c.loop-frame.invariant.reaching c.in-Some.frame.now c.next.new.self
      (sym c.in-Some.ensures.steps ∙ c.loop-frame.invariant.rest) c.if-count-gt0.true (omega (arith, c.len-len.ensures.value));
}

pub loop-frame-preserved : goal.loop-frame-preserved
loop-frame-preserved c =
    let next = sym c.in-Some.ensures.steps ∙ c.loop-frame.invariant.rest in
    record {
      rest = rest_is c.args.frames.now c.loop-frame.count c.in-Some.frame.now c.next.new.self next;
      reaching = rw (c.saturating_sub-room.ensures, c.len-len.ensures.value)
          (reaching_more c.args.max c.args.frames.now c.loop-frame.count c.loop-frame.room c.loop-frame.invariant.reaching c.in-Some.frame.now c.next.new.self next
          (rw c.len-len.ensures.value at c.else-count-gt0.either));
    }

pub returns : goal.returns
returns c = record {
  value = reached_all c.args.max c.args.frames.now c.loop-frame.count c.loop-frame.room c.loop-frame.invariant.reaching (sym c.in-None.ensures.steps.0 ∙ c.loop-frame.invariant.rest);
}
