use Rattle.js_desk.proofs.Looked.{resumed}
use Rattle.js_desk.proofs.solo_ground.SoloGroundGround.resume.Goals as goal

pub returns-clause-made : goal.returns-clause-made
returns-clause-made g c = rw (← c.self.view_is) (resumed _ g.met.P.Place.keeps_none _ _ _ _ g.P.Place.room_causes.outgrows_log g.met.P.Place.earlier _ _ _ _ _ _ _)
