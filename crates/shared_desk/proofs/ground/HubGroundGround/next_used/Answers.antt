use Rattle.std.proofs.Common.{length}
use Rattle.js_model.specs.Catalog as catalog
use Rattle.shared_desk.proofs.Looked.{found_few, looks_so}
use Rattle.shared_desk.proofs.ground.HubGroundGround.next_used.Goals as goal

pub returns-clause-made : goal.returns-clause-made
returns-clause-made g c = looks_so (catalog.NextUsed c.args.after) c.look.result c.args.self.now c.look.new.self c.look.ensures.looked c.look.ensures.worn

pub returns-clause-few : goal.returns-clause-few
returns-clause-few g c = found_few (length c.args.self.now.hub.places) c.look.result c.look.ensures.few c.look.ensures.within
