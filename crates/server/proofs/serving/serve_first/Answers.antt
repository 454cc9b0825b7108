use Rattle.std.proofs.Common.{refl}
use Rattle.js_desk.specs.Solo.{DeskMade}
use Rattle.server.proofs.Ending.{link_served, was_closed, was_quiet, was_unasked, has_failed, has_starved}
use Rattle.server.proofs.Made.{made_none}
use Rattle.server.proofs.serving.serve_first.Goals as goal

pub returns-in-Err-clause-awaited : goal.returns-in-Err-clause-awaited
returns-in-Err-clause-awaited g c =
    was_unasked (DeskMade g.P.Place.keeps_vol g.P.Place.holds g.P.Place.left g.P.Place.clock g.P.Place.base g.P.Place.room_causes.outgrows_log)
    (made_none g.P.Place.keeps_vol g.P.Place.holds g.P.Place.left g.P.Place.clock g.P.Place.base g.P.Place.room_causes.outgrows_log g.met.P.Place.keeps_none g.met.P.Place.earlier)
    c.args.desk.now _ _ _ _ _ _ _ _ _ _ _ refl refl refl refl _ c.unserved.ensures

pub returns-in-Got-clause-awaited : goal.returns-in-Got-clause-awaited
returns-in-Got-clause-awaited g c =
    let got = c.in-Got.ensures in
    let served = c.serve.ensures in
    link_served (DeskMade g.P.Place.keeps_vol g.P.Place.holds g.P.Place.left g.P.Place.clock g.P.Place.base g.P.Place.room_causes.outgrows_log) _ _ _ _ _ _ _ _ _ _ _ _ _ _ _ _ _ _ _ _ c.in-Ok.ensures.limits got.arrives served.answered got.gave served.gave got.back got.starved served.starved served.served

pub returns-in-Quiet-clause-awaited : goal.returns-in-Quiet-clause-awaited
returns-in-Quiet-clause-awaited g c =
    was_quiet (DeskMade g.P.Place.keeps_vol g.P.Place.holds g.P.Place.left g.P.Place.clock g.P.Place.base g.P.Place.room_causes.outgrows_log)
    (made_none g.P.Place.keeps_vol g.P.Place.holds g.P.Place.left g.P.Place.clock g.P.Place.base g.P.Place.room_causes.outgrows_log g.met.P.Place.keeps_none g.met.P.Place.earlier)
    c.args.desk.now _ _ _ _ _ _ _ _ _ _ _ c.in-Quiet.ensures.gave c.in-Quiet.ensures.back c.in-Quiet.ensures.starved c.in-Quiet.ensures.arrives _ c.unserved-in-Quiet.ensures

pub returns-in-Closed-clause-awaited : goal.returns-in-Closed-clause-awaited
returns-in-Closed-clause-awaited g c =
    was_closed (DeskMade g.P.Place.keeps_vol g.P.Place.holds g.P.Place.left g.P.Place.clock g.P.Place.base g.P.Place.room_causes.outgrows_log)
    (made_none g.P.Place.keeps_vol g.P.Place.holds g.P.Place.left g.P.Place.clock g.P.Place.base g.P.Place.room_causes.outgrows_log g.met.P.Place.keeps_none g.met.P.Place.earlier)
    c.args.desk.now _ _ _ _ _ _ _ _ _ _ _ c.in-Closed.ensures.gave c.in-Closed.ensures.back c.in-Closed.ensures.starved c.in-Closed.ensures.arrives _ c.unserved-in-Closed.ensures

pub returns-in-Failed-clause-awaited : goal.returns-in-Failed-clause-awaited
returns-in-Failed-clause-awaited g c =
    has_failed (DeskMade g.P.Place.keeps_vol g.P.Place.holds g.P.Place.left g.P.Place.clock g.P.Place.base g.P.Place.room_causes.outgrows_log)
    (made_none g.P.Place.keeps_vol g.P.Place.holds g.P.Place.left g.P.Place.clock g.P.Place.base g.P.Place.room_causes.outgrows_log g.met.P.Place.keeps_none g.met.P.Place.earlier)
    c.args.desk.now _ _ _ _ _ _ _ _ _ _ _ c.in-Failed.ensures.gave c.in-Failed.ensures.back c.in-Failed.ensures.starved (c.in-Failed.ensures.cause.failed refl) c.in-Failed.ensures.arrives _ c.unserved-in-Failed.ensures

pub returns-clause-awaited : goal.returns-clause-awaited
returns-clause-awaited g c =
    has_starved (DeskMade g.P.Place.keeps_vol g.P.Place.holds g.P.Place.left g.P.Place.clock g.P.Place.base g.P.Place.room_causes.outgrows_log)
    (made_none g.P.Place.keeps_vol g.P.Place.holds g.P.Place.left g.P.Place.clock g.P.Place.base g.P.Place.room_causes.outgrows_log g.met.P.Place.keeps_none g.met.P.Place.earlier)
    c.args.desk.now _ _ _ _ _ _ _ _ _ _ _ c.in-NoMemory.ensures.gave c.in-NoMemory.ensures.back c.in-NoMemory.ensures.starved c.in-NoMemory.ensures.arrives _ c.unserved-in-NoMemory.ensures
