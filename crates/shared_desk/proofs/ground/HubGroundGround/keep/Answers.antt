use Rattle.desk_places.specs.declared.turn.Turn.TheVariants as turns
use Rattle.js_model.specs.Catalog as catalog
use Rattle.shared_desk.proofs.Looked.{called_made}
use Rattle.shared_desk.proofs.ground.HubGroundGround.keep.Goals as goal

pub returns-clause-made : goal.returns-clause-made
returns-clause-made g c =
    rw (← c.self.view_is)
    (called_made c.self.inside.hub.now c.self.inside.router c.self.inside.places.items c.self.inside.ticked c.self.inside.last c.self.inside.turn turns.Within c.self.inside.catalog c.put.new.self c.take_turn-turn.result c.keep.new.self (catalog.Keep c.args.place c.args.new) catalog.Done c.take_turn-turn.ensures.turn c.put.ensures.side c.keep.ensures.called)
