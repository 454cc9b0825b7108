use Rattle.js_model.specs.Cataloging.{add_told}
use Rattle.js_model.specs.Catalog as catalog
use Rattle.shared_desk.proofs.Looked.{called_made}
use Rattle.shared_desk.proofs.ground.HubGroundGround.add.Goals as goal

pub returns-clause-made : goal.returns-clause-made
returns-clause-made g c =
    rw (← c.self.view_is)
    (called_made c.self.inside.hub.now c.self.inside.router c.self.inside.places.items c.self.inside.ticked c.self.inside.last c.self.inside.turn c.self.inside.turn c.self.inside.catalog c.put.new.self c.take_turn-turn.result c.add-added.new.self (catalog.Add c.args.name.now c.args.subjects.now) (add_told c.add-added.result) c.take_turn-turn.ensures.turn c.put.ensures.side c.add-added.ensures.called)
