use Rattle.std.proofs.Common.{◌∙◌, arith}
use Rattle.session.proofs.Gathered.{gathering_first, gathering_more, gathering_last, gathering_spent, gathering_stop, gathering_unbegun}
use Rattle.session.proofs.gathering.gather.Goals as goal

pub returns-in-Err-clause-gathers : goal.returns-in-Err-clause-gathers
returns-in-Err-clause-gathers g c = gathering_unbegun _ _ _ _ _ _ _ c.in-Err.stop c.in-Err.ensures.collects

pub loop-rounds-init : goal.loop-rounds-init
loop-rounds-init g c = record {
  within = omega arith;
  gathering = gathering_first _ _ _ _ _ _ _ c.in-Ok.ensures.collects;
  client = c.in-Ok.ensures.client;
  is_open = c.in-Ok.ensures.is_open;
}

pub loop-rounds-preserved : goal.loop-rounds-preserved
loop-rounds-preserved g c =
    let i = c.loop-rounds.invariant in
    record {
      within = omega (arith, c.loop-rounds-test.true);
      gathering = gathering_more _ g.met.D.Desk.made_more _ _ _ _ _ _ _ _ _ i.gathering (rw (c.in-Ok-true.field-0-test, i.client) at c.in-Ok-true.ensures.settles);
      client = c.settle_once.ensures.client ∙ i.client;
      is_open = c.settle_once.ensures.is_open;
    }

pub returns-in-Ok-false-clause-gathers : goal.returns-in-Ok-false-clause-gathers
returns-in-Ok-false-clause-gathers g c =
    let i = c.loop-rounds.invariant in
    gathering_last _ g.met.D.Desk.made_more _ _ _ _ _ _ _ _ _ c.loop-rounds-test.true i.gathering (rw (c.in-Ok-false.field-0-test, i.client) at c.in-Ok-false.ensures.settles)

pub returns-in-Err-settle_once-clause-gathers : goal.returns-in-Err-settle_once-clause-gathers
returns-in-Err-settle_once-clause-gathers g c =
    let i = c.loop-rounds.invariant in
    gathering_stop _ g.met.D.Desk.made_more _ _ _ _ _ _ _ _ _ c.in-Err-settle_once.stop _ c.loop-rounds-test.true i.gathering i.client c.in-Err-settle_once.ensures.settles

pub returns-clause-gathers : goal.returns-clause-gathers
returns-clause-gathers g c =
    let i = c.loop-rounds.invariant in
    gathering_spent _ _ _ _ _ _ _ c.loop-rounds.rounds (omega (arith, i.within, c.loop-rounds-test.false)) i.gathering
