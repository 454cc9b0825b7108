use Rattle.std.proofs.Common.{subst, Ok}
use Rattle.js_api.specs.Calls.{Turns}
use Rattle.js_api.specs.Leading.{Makes}
use Rattle.shared_desk.specs.Grounds.{HubMade, Standing, standing}
use Rattle.shared_desk.proofs.Looked.{ticked_made, unturned_exit}
use Rattle.shared_desk.proofs.ground.HubGroundGround.turn.Goals as goal

pub returns-in_err-found-clause-made : goal.returns-in_err-found-clause-made
returns-in_err-found-clause-made g c =
    subst (λ (s : Standing). Makes HubMade (Turns c.from_residual.result) s c.look.new.self) c.self.view_is
    (unturned_exit _ c.from_residual.result _ c.look.new.self c.from_residual.ensures.1 (c.in_err-found.ensures).worn)

pub returns-clause-made : goal.returns-clause-made
returns-clause-made g c =
    let i = c.self-2.inside in
    subst (λ (s : Standing). Makes HubMade (Turns (Ok c.in_ok-found.found)) s (standing i.hub.now i.router i.catalog i.places.items c.place_or-self-inside.result i.last i.turn)) c.self.view_is
    (ticked_made c.unwrap_or-after.result c.in_ok-found.found _ c.look.new.self i.hub.now i.router i.catalog i.places.items i.ticked c.place_or-self-inside.result i.last i.turn c.in_ok-found.ensures.looked c.self-2.view_is c.place_or-self-inside.ensures.value)
