use Rattle.js_model.specs.Catalog as catalog
use Rattle.desk_places.specs.declared.turn.Turn.TheVariants as turns
use Rattle.shared_desk.proofs.Looked.{begun_made, unbegun_made}
use Rattle.shared_desk.proofs.ground.HubGroundGround.begin.Goals as goal

pub returns-in-Ok-clause-made : goal.returns-in-Ok-clause-made
returns-in-Ok-clause-made g c =
    rw (← c.self.view_is)
    (begun_made c.self.inside.hub.now c.self.inside.router c.self.inside.places.items c.self.inside.ticked c.self.inside.last c.self.inside.turn turns.Within c.self.inside.catalog c.put.new.self c.take_seat-seat.result c.in-Ok.turn c.by_name-found.new.self (catalog.ByName c.args.name.now) c.by_name-found.result c.take_seat-seat.ensures.seat c.put.ensures.side c.in-Ok.ensures.sees c.in-Ok.ensures.ticket c.by_name-found.ensures.called)

pub returns-in-Err-clause-made : goal.returns-in-Err-clause-made
returns-in-Err-clause-made g c =
    rw (← c.self.view_is)
    (unbegun_made c.self.inside.hub.now c.self.inside.router c.self.inside.places.items c.self.inside.ticked c.self.inside.last c.self.inside.turn c.self.inside.catalog c.put-in-Err.new.self c.take_seat-seat.result c.in-Err.seat c.in-Err.number (catalog.ByName c.args.name.now) c.take_seat-seat.ensures.seat c.put-in-Err.ensures.side c.in-Err.ensures.worn.0 c.in-Err.ensures.worn.1)
