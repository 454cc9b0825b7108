use Rattle.shared_desk.proofs.Grounded.{pass_of}
use Rattle.shared_desk.proofs.ground.HubGround.into_pass.Goals as goal

pub invariant_of-result : goal.invariant_of-result
invariant_of-result g c =
    let ground = c.self.inside in
    pass_of ground.hub.now ground.router ground.catalog ground.places.items ground.last ground.turn c.in-Outside.seat c.self.invariant c.in-Outside.is
