use Rattle.std.proofs.Common.{◌∙◌, ap, map}
use Rattle.std.specs.Prelude.{filter}
use Rattle.route_core.specs.Subscriptions.{hears}
use Rattle.route_core.proofs.Taking.{all_made}
use Rattle.route_core.proofs.dispatch.deliveries.Goals as goal

pub returns : goal.returns
returns c =
    let subs = c.args.subscriptions.now in
    let found = c.in_ok-hearing.ensures.value ∙ ap (λ subject. filter (hears subject c.args.deaf) subs) c.as_slice.ensures in
    record {
      value = all_made c.args.sessions.now c.args.out.now c.args.deaf subs (map (λ heard. heard.sub.now) c.as_slice-2.result.now) (map (λ heard. heard.sub.now) c.as_slice-3.result.now)
          (map (λ heard. heard.sub.now) c.as_slice-4.result.now) (map (λ posted. posted.delivery) c.add_each.new.list.items) (map (λ posted. posted.delivery) c.add_plain.new.list.items)
          (map (λ posted. posted.delivery) c.new-list.result.items) c.in_ok-add_each.ensures.added (ap (map (λ heard. heard.sub.now)) c.as_slice-4.ensures.value ∙ c.in_ok-members.ensures.value)
          c.in_ok-add_plain.ensures.added (ap (map (λ posted. posted.delivery)) c.new-list.ensures.items)
          (ap (map (λ heard. heard.sub.now)) c.as_slice-2.ensures.value ∙ found) (ap (map (λ heard. heard.sub.now)) c.as_slice-3.ensures.value ∙ found);
    }
