use Rattle.std.proofs.Common.{◌∙◌, map}
use Rattle.route_core.specs.Deliveries.{delivery_of}
use Rattle.route_core.proofs.Taking.{made_more, added_one}
use Rattle.route_core.proofs.dispatch.add_each.Goals as goal

pub loop-heard-preserved : goal.loop-heard-preserved
loop-heard-preserved c =
    let made = delivery_of c.args.sessions.now c.args.out.now in
    let start = map (λ posted. posted.delivery) c.args.list.now.items in
    let so_far = map (λ posted. posted.delivery) c.loop-heard.list.items in
    added_one (λ posted. posted.delivery) c.loop-heard.list.items _ c.in_ok-posted_for.field-0 _ c.in_ok-push.ensures.items c.in_ok-posted_for.ensures.value
    ∙ made_more (λ heard. heard.sub.now) made start so_far c.args.takers.now c.loop-heard.heard-index c.heard-item.result c.loop-heard-test.true c.loop-heard.invariant c.heard-item.is
