use Rattle.std.proofs.Common.{sym, subst}
use Rattle.shared_desk.specs.Passes.{IsPassOf}
use Rattle.shared_desk.proofs.Grounded.{grounded_of}
use Rattle.shared_desk.proofs.ground.HubGround.of.Goals as goal

pub invariant_of-result : goal.invariant_of-result
invariant_of-result g c =
    let pass = c.pass.inside in
    grounded_of c.args.hub.now pass.router pass.catalog pass.places.items pass.ticked pass.last c.in-Some.seat c.law_hub.ensures.hub c.pass.invariant
    (subst (IsPassOf c.args.hub.now) (sym c.pass.view_is) c.requires.own) c.in-Some.is
