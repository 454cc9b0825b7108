use Rattle.js_model.specs.Catalog as catalog
use Rattle.shared_desk.proofs.Looked.{looks_so}
use Rattle.shared_desk.proofs.ground.HubGroundGround.find.Goals as goal

pub returns-clause-made : goal.returns-clause-made
returns-clause-made g c = looks_so (catalog.Find c.args.subject.now) c.look.result c.args.self.now c.look.new.self c.look.ensures.looked c.look.ensures.worn
