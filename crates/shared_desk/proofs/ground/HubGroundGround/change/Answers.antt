use Rattle.js_model.specs.Cataloging.{change_told}
use Rattle.js_model.specs.Catalog as catalog
use Rattle.shared_desk.proofs.Looked.{called_made}
use Rattle.shared_desk.proofs.ground.HubGroundGround.change.Goals as goal

pub returns-clause-made : goal.returns-clause-made
returns-clause-made g c =
    rw (← c.self.view_is)
    (called_made c.self.inside.hub.now c.self.inside.router c.self.inside.places.items c.self.inside.ticked c.self.inside.last c.self.inside.turn c.after_change-self-inside.result c.self.inside.catalog c.put.new.self c.take_turn-turn.result c.change-changed.new.self (catalog.Change c.args.at.place c.args.subjects.now) (change_told c.change-changed.result) c.take_turn-turn.ensures.turn c.put.ensures.side c.change-changed.ensures.called)
