use Rattle.std.proofs.Common.{inl, inr}
use Rattle.session.proofs.Turned.{rested, unticked, unkept}
use Rattle.session.proofs.Failed.{fails_after}
use Rattle.session.proofs.turn.rest.Goals as goal

pub returns-in-Err-clause-rests : goal.returns-in-Err-clause-rests
returns-in-Err-clause-rests g c =
    inl (unkept _ _ _ _ _ _ _ c.in-Err.ended (g.met.D.Desk.made_nothing c.args.desk.now) c.unwrap_or-came.ensures c.in-Err.ensures.keeps)

pub returns-in-Err-end_turn-clause-rests : goal.returns-in-Err-end_turn-clause-rests
returns-in-Err-end_turn-clause-rests g c =
    inr (unticked _ _ _ _ _ _ _ _ _ _ c.in-Err-end_turn.ended c.unwrap_or-came.ensures c.in-Ok.ensures.keeps
    (rw c.new-waiting.ensures.items at c.in-Err-end_turn.ensures.ticks))

pub returns-clause-rests : goal.returns-clause-rests
returns-clause-rests g c =
    rested _ _ _ _ _ _ _ _ _ _ _ c.end_turn.ensures.client c.unwrap_or-came.ensures c.in-Ok.ensures.keeps
    (rw c.new-waiting.ensures.items at c.in-Ok-end_turn.ensures.ticks)

pub returns-in-Err-end_turn-clause-failings : goal.returns-in-Err-end_turn-clause-failings
returns-in-Err-end_turn-clause-failings g c = fails_after c.in-Err-end_turn.ended _ _ _ c.in-Ok.ensures.failings c.in-Err-end_turn.ensures.failings
