use Rattle.desk_places.specs.declared.turn.Turn.TheVariants as turns
use Rattle.shared_desk.proofs.Looked.{ended_made}
use Rattle.shared_desk.proofs.ground.HubGroundGround.end.Goals as goal

pub returns-clause-made : goal.returns-clause-made
returns-clause-made g c =
    rw (← c.self.view_is)
    (ended_made c.self.inside.hub.now c.self.inside.router c.self.inside.places.items c.self.inside.ticked c.self.inside.last c.self.inside.turn turns.Outside c.self.inside.catalog c.put.new.self c.take_turn-turn.result c.end-seat.result c.take_turn-turn.ensures.turn c.put.ensures.side c.end-seat.ensures.seat)
