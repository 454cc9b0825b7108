use Rattle.std.proofs.Common.{◌∙◌, ap, sym, map}
use Rattle.js_model.specs.Router.{is_plain}
use Rattle.route_core.specs.Deliveries.{delivery_of}
use Rattle.route_core.proofs.Taking.{kept_more, kept_same, added_one}
use Rattle.route_core.proofs.dispatch.add_plain.Goals as goal
use Rattle.route_core.proofs.dispatch.add_plain.Goals.{then-is_plain+in_ok-posted_for+in_ok-push, else-is_plain}

pub loop-heard-preserved : goal.loop-heard-preserved
loop-heard-preserved c =
    let made = delivery_of c.args.sessions.now c.args.out.now in
    let i = c.loop-heard.heard-index in
    let x = c.heard-item.result in
    let start = map (λ posted. posted.delivery) c.args.list.now.items in
    let so_far = map (λ posted. posted.delivery) c.loop-heard.list.items in
    elim c.if-is_plain.branch [
      | then-is_plain+in_ok-posted_for+in_ok-push w ↦
          ap (λ v. map (λ posted. posted.delivery) v.items) w.list-is
          ∙ added_one (λ posted. posted.delivery) c.loop-heard.list.items _ w.in_ok-posted_for.field-0 _ w.in_ok-push.ensures.items w.in_ok-posted_for.ensures.value
          ∙ kept_more (λ heard. heard.sub.now) is_plain made start so_far c.args.hearing.now i x c.loop-heard-test.true c.loop-heard.invariant c.heard-item.is (sym c.is_plain.ensures.value ∙ w.if-is_plain.true)
      | else-is_plain w ↦
          ap (λ v. map (λ posted. posted.delivery) v.items) w.list-is
          ∙ kept_same (λ heard. heard.sub.now) is_plain made start so_far c.args.hearing.now i x c.loop-heard-test.true c.loop-heard.invariant c.heard-item.is (sym c.is_plain.ensures.value ∙ w.if-is_plain.false)
    ]
