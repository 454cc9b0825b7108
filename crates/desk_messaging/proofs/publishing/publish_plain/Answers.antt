use Rattle.desk_ground.specs.Callers.{client_of}
use Rattle.desk_messaging.proofs.Publishes.{looked, offered, stored, unlooked, unoffered, unstored}
use Rattle.desk_messaging.proofs.publishing.publish_plain.Goals as goal

pub returns-in_err-subscriptions-clause-made : goal.returns-in_err-subscriptions-clause-made
returns-in_err-subscriptions-clause-made g c = unoffered g.G.Ground.made g.met.G.Ground.made_more (client_of c.args.caller) c.args.message.now c.args.now c.publish.result _ _ _ _ c.in_err-subscriptions.was c.from_residual.ensures.1 c.publish.ensures.made

pub returns-in_err-found-clause-made : goal.returns-in_err-found-clause-made
returns-in_err-found-clause-made g c =
    (offered g.G.Ground.made g.met.G.Ground.made_more (client_of c.args.caller) c.args.message.now c.args.now c.publish.result c.in_ok-subscriptions.subscriptions _ _ _ _ c.in_ok-subscriptions.was c.publish.ensures.made
    (unlooked g.G.Ground.made g.met.G.Ground.made_more (client_of c.args.caller) c.args.message.now c.args.now c.in_ok-subscriptions.subscriptions c.find.result _ _ _ _ c.in_err-found.was c.from_residual-in_err-found.ensures.1 (rw c.as_slice.ensures at c.find.ensures.made)))

pub returns-in_err-other-clause-made : goal.returns-in_err-other-clause-made
returns-in_err-other-clause-made g c =
    (offered g.G.Ground.made g.met.G.Ground.made_more (client_of c.args.caller) c.args.message.now c.args.now c.publish.result c.in_ok-subscriptions.subscriptions _ _ _ _ c.in_ok-subscriptions.was c.publish.ensures.made
    (looked g.G.Ground.made g.met.G.Ground.made_more (client_of c.args.caller) c.args.message.now c.args.now c.in_ok-subscriptions.subscriptions c.find.result c.in_ok-found.found _ _ _ _ c.in_ok-found.was (rw c.as_slice.ensures at c.find.ensures.made)
    (unstored g.G.Ground.made g.met.G.Ground.made_more (client_of c.args.caller) c.args.message.now c.args.now c.in_ok-subscriptions.subscriptions c.in_ok-found.found c.store.result _ _ _ _ c.in_err-other.was c.from_residual-in_err-other.ensures.1 c.store.ensures.made)))

pub returns-clause-made : goal.returns-clause-made
returns-clause-made g c =
    offered g.G.Ground.made g.met.G.Ground.made_more (client_of c.args.caller) c.args.message.now c.args.now c.publish.result c.in_ok-subscriptions.subscriptions c.tell_untaken.result _ _ _ c.in_ok-subscriptions.was c.publish.ensures.made
    (looked g.G.Ground.made g.met.G.Ground.made_more (client_of c.args.caller) c.args.message.now c.args.now c.in_ok-subscriptions.subscriptions c.find.result c.in_ok-found.found c.tell_untaken.result _ _ _ c.in_ok-found.was (rw c.as_slice.ensures at c.find.ensures.made)
    (stored g.G.Ground.made g.met.G.Ground.made_more (client_of c.args.caller) c.args.message.now c.args.now c.in_ok-subscriptions.subscriptions c.in_ok-found.found c.store.result c.in_ok-other.other c.tell_untaken.result _ _ _ c.in_ok-other.was c.store.ensures.made c.tell_untaken.ensures.made))
