use Rattle.run_laws.proofs.Unopened.{unopened_holds}
use Rattle.run_laws.proofs.crashes.law_unopened_holds.Goals as goal

pub returns : goal.returns
returns g c =
    let p = g.P.Place in
    let m = g.met.P.Place in
    record { law = unopened_holds p.seen p.vol p.holds p.reads p.left p.clock p.faults p.room_causes p.base p.opens p.refuses p.keeps_vol m.earlier m.holds_one m.opens_read }
