use Rattle.js_desk.specs.Solo.{DeskMade}
use Rattle.server.proofs.Made.{made_none}
use Rattle.server.proofs.Prepared.{made_so, unmade}
use Rattle.server.proofs.preparing.prepare.Goals as goal

pub returns-in-Some-clause-prepared : goal.returns-in-Some-clause-prepared
returns-in-Some-clause-prepared g c =
    made_so _ (λ a b entries made. made.0) _ c.in-Some.named _ _ _ _ _ _ _ c.in-Some.is c.requires.opened c.as_slice.ensures c.now-now.ensures.reads c.make_stream.ensures.made

pub returns-in-None-clause-prepared : goal.returns-in-None-clause-prepared
returns-in-None-clause-prepared g c =
    unmade (DeskMade g.P.Place.keeps_vol g.P.Place.holds g.P.Place.left g.P.Place.clock g.P.Place.base g.P.Place.room_causes.outgrows_log) (made_none g.P.Place.keeps_vol g.P.Place.holds g.P.Place.left g.P.Place.clock g.P.Place.base g.P.Place.room_causes.outgrows_log g.met.P.Place.keeps_none g.met.P.Place.earlier) _ _ _ c.in-None.is c.requires.opened
