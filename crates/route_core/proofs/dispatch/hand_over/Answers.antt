use Rattle.std.proofs.Common.{refl, sym, ap, ◌∙◌}
use Rattle.js_model.specs.Router.{is_session}
use Rattle.route_core.specs.Sessions.{receiving}
use Rattle.route_core.proofs.Places.{changed_there, unchanged_there}
use Rattle.route_core.proofs.dispatch.hand_over.Goals as goal

pub returns-in-Some : goal.returns-in-Some
returns-in-Some c = record {
  value = changed_there (is_session c.args.delivery.session) (receiving c.args.delivery.frame) c.args.sessions.now c.args.sessions.now c.place_of.result c.in-Some.at
      c.index-sessions-at.result _ refl c.place_of.ensures.value c.in-Some.is c.index-sessions-at.is (c.receive.ensures.value ∙ ap (receiving c.args.delivery.frame) (sym c.index-sessions-at.is));
}

pub returns-in_default : goal.returns-in_default
returns-in_default c = record {
  value = unchanged_there (is_session c.args.delivery.session) (receiving c.args.delivery.frame) c.args.sessions.now c.args.sessions.now c.place_of.result
      refl c.place_of.ensures.value c.in_default.is;
}
