use Rattle.shared_desk.proofs.Looked.{resumed}
use Rattle.shared_desk.proofs.ground.HubGroundGround.resume.Goals as goal

pub returns-clause-made : goal.returns-clause-made
returns-clause-made g c = rw (← c.self.view_is) (resumed _)
