use Rattle.std.proofs.Common.{◌≡◌, ◌++◌, fold, map}
use Rattle.route_core.specs.Deliveries.{handed_over, counted_once}
use Rattle.route_core.specs.Sessions.{InOrder}
use Rattle.route_core.proofs.dispatch.hand_over_all.Given as goal

-- the messages so far are handed over, and the iterator has the others
abbrev pub invariant-loop-posted : goal.invariant-loop-posted
invariant-loop-posted l = record {
  all : l.yielded ++ l.posted-iterator.rest.items ≡ l.fn.list.items;
  sessions : l.sessions ≡ fold handed_over l.initial.sessions (map (λ posted. posted.delivery) l.yielded);
  numbered : InOrder l.sessions;
  subscriptions : l.subscriptions ≡ fold counted_once l.initial.subscriptions (map (λ posted. posted.delivery) l.yielded);
}
