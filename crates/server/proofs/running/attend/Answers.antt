use Rattle.std.proofs.Common.{◌∙◌, ap, Err}
use Rattle.js_desk.specs.Solo.{DeskMade}
use Rattle.server.specs.Running.{status_of}
use Rattle.server.proofs.Ending.{awaited_over, refused_over, unmade_over}
use Rattle.server.proofs.Made.{made_more}
use Rattle.server.proofs.running.attend.Goals as goal

pub returns-in-Ok-None-clause-attended : goal.returns-in-Ok-None-clause-attended
returns-in-Ok-None-clause-attended g c =
    awaited_over (DeskMade g.P.Place.keeps_vol g.P.Place.holds g.P.Place.left g.P.Place.clock g.P.Place.base g.P.Place.room_causes.outgrows_log) _ _ (made_more g.P.Place.keeps_vol g.P.Place.holds g.P.Place.left g.P.Place.clock g.P.Place.base g.P.Place.room_causes.outgrows_log g.met.P.Place.keeps_more)
    _ _ _ _ _ _ _ _ _ _ _ c.in-Ok-None.field-0-is c.in-Ok-None.ensures.prepared c.serve_first.ensures.awaited

pub returns-in-Ok-Some-clause-attended : goal.returns-in-Ok-Some-clause-attended
returns-in-Ok-Some-clause-attended g c =
    refused_over (DeskMade g.P.Place.keeps_vol g.P.Place.holds g.P.Place.left g.P.Place.clock g.P.Place.base g.P.Place.room_causes.outgrows_log) _ _ _ c.in-Ok-Some.error _ _ _ _ _ _ _ c.in-Ok-Some.field-0-is c.unserved.ensures c.in-Ok-Some.ensures.prepared
    c.print_number.ensures.printed

pub returns-in-Err-clause-attended : goal.returns-in-Err-clause-attended
returns-in-Err-clause-attended g c =
    unmade_over (DeskMade g.P.Place.keeps_vol g.P.Place.holds g.P.Place.left g.P.Place.clock g.P.Place.base g.P.Place.room_causes.outgrows_log) _ _ (Err c.in-Err.fault) _ _ _ _ _ _ _ _ c.unserved-in-Err.ensures c.in-Err.ensures.prepared
    (c.status_of.ensures.status ∙ ap status_of c.from.ensures)
