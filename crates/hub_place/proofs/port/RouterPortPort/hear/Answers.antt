use Rattle.std.proofs.Common.{◌≡◌, ◌∙◌, ◌++◌, ◌∷◌, [], Err, ap, refl, rules}
use Rattle.turn_lock.specs.Ruled.{last_ticket}
use Rattle.desk_hold.proofs.Listeners.{next_heard}
use Rattle.hub_place.specs.Ports.{IsRouted, IsWorn}
use Rattle.hub_place.proofs.Heard.{then_short, then_worn}
use Rattle.hub_place.proofs.port.RouterPortPort.hear.Goals as goal

pub returns-in_err-heard : goal.returns-in_err-heard
returns-in_err-heard g c =
    let same : c.from_residual.result ≡ Err c.in_err-heard.field-0.0 = search rules in
    record {
      hears = rw (same ∙ ap Err c.in_err-heard.ensures.worn.0)
          (then_worn IsRouted IsWorn c.args.pushes.now c.loop-push.push-index c.loop-push.told last_ticket c.args.self.now c.loop-push.self c.is_heard.new.self c.loop-push.invariant (refl, c.in_err-heard.ensures.worn.1));
    }

pub returns-then-is_err : goal.returns-then-is_err
returns-then-is_err g c = record {
  hears = then_short IsRouted IsWorn c.args.pushes.now _ (c.loop-push.told ++ c.in_ok-heard.heard ∷ []) c.args.self.now c.is_heard.new.self
      (next_heard IsRouted IsWorn c.args.pushes.now c.loop-push.push-index c.loop-push.told (c.loop-push.told ++ c.in_ok-heard.heard ∷ []) c.push-item.result c.in_ok-heard.heard
      c.args.self.now c.loop-push.self c.is_heard.new.self c.loop-push-test.true c.push-item.is c.loop-push.invariant c.in_ok-heard.ensures.heard refl);
}

pub loop-push-preserved : goal.loop-push-preserved
loop-push-preserved g c =
    let added : c.push.new.self ≡ c.loop-push.told ++ c.in_ok-heard.heard ∷ [] = search rules in
    next_heard IsRouted IsWorn c.args.pushes.now c.loop-push.push-index c.loop-push.told c.push.new.self c.push-item.result c.in_ok-heard.heard
    c.args.self.now c.loop-push.self c.is_heard.new.self c.loop-push-test.true c.push-item.is c.loop-push.invariant c.in_ok-heard.ensures.heard added
