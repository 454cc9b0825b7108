use Rattle.std.proofs.Common.{refl}
use Rattle.session.proofs.Carried.{tick_asked, tick_left, tick_carries, tick_ends}
use Rattle.session.proofs.operation.carry_tick.Goals as goal
use Rattle.session.proofs.operation.carry_tick.Goals.{then-manners+in_ok-tick, else-manners}

pub returns-in_err-tick-clause-carries : goal.returns-in_err-tick-clause-carries
returns-in_err-tick-clause-carries g c =
    tick_ends _ _ _ c.args.manners c.from_residual.result _ _ _ _ c.if-manners.true c.from_residual.ensures.1 c.in_err-tick.ensures.made

pub returns-clause-carries : goal.returns-clause-carries
returns-clause-carries g c =
    elim c.if-manners.branch [
      | then-manners+in_ok-tick w ↦
          tick_carries _ g.met.D.Desk.made_more _ _ _ c.args.manners _ _ _ _ _ c.gather.result
          (tick_asked _ _ _ c.args.manners _ _ c.args.into.now.items w.if-manners.true w.in_ok-tick.ensures.made) w.in_ok-tick.ensures.client
          (rw w.desk-is at c.gather.ensures.gathers)
      | else-manners w ↦
          tick_carries _ g.met.D.Desk.made_more _ _ _ c.args.manners _ _ _ _ _ c.gather.result
          (tick_left _ _ _ c.args.manners _ c.args.into.now.items w.if-manners.false (g.met.D.Desk.made_nothing c.args.desk.now)) refl
          (rw w.desk-is at c.gather.ensures.gathers)
    ]
