use Rattle.std.proofs.Common.{◌∙◌}
use Rattle.session.proofs.Collected.{collecting_more, collecting_last, collecting_stop}
use Rattle.session.proofs.collecting.collect_all.Goals as goal

pub loop-stop-preserved : goal.loop-stop-preserved
loop-stop-preserved g c =
    let i = c.loop-stop.invariant in
    record {
      collecting = collecting_more _ g.met.D.Desk.made_more _ _ _ _ _ _ _ i.collecting (rw (c.in-Ok-true.field-0-test, i.client) at c.in-Ok-true.ensures.collects);
      client = c.collect_once.ensures.client ∙ i.client;
      is_open = c.collect_once.ensures.is_open;
    }

pub returns-in-Ok-false-clause-collects : goal.returns-in-Ok-false-clause-collects
returns-in-Ok-false-clause-collects g c =
    let i = c.loop-stop.invariant in
    collecting_last _ g.met.D.Desk.made_more _ _ _ _ _ _ _ i.collecting (rw (c.in-Ok-false.field-0-test, i.client) at c.in-Ok-false.ensures.collects)

pub returns-in-Err-clause-collects : goal.returns-in-Err-clause-collects
returns-in-Err-clause-collects g c =
    let i = c.loop-stop.invariant in
    collecting_stop _ g.met.D.Desk.made_more _ _ _ _ _ _ _ c.in-Err.stop _ i.collecting i.client c.in-Err.ensures.collects
