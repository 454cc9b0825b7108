use Rattle.std.proofs.Common.{Ok, false, refl}
use Rattle.js_api.specs.Publishing.{Reaches}
use Rattle.js_api.specs.Stages.{Gives}
use Rattle.desk_ground.proofs.Stages.{if_absent, if_found, nothing}
use Rattle.desk_messaging.proofs.Publishes.{reaches}
use Rattle.desk_messaging.proofs.publishing.store.Goals as goal

pub returns-in-Some-clause-made : goal.returns-in-Some-clause-made
returns-in-Some-clause-made g c = if_found g.G.Ground.made (Gives false c.end_store-result.result) (λ at. Reaches c.args.message.now c.args.now at c.end_store-result.result) c.args.found c.in-Some.at _ _ c.in-Some.is (reaches g.G.Ground.made g.met.G.Ground.made_more c.args.message.now c.args.now c.in-Some.at c.ask_store-outcome.result c.end_store-result.result _ _ _ c.ask_store-outcome.ensures.made c.end_store-result.ensures.made)

pub returns-in-None-clause-made : goal.returns-in-None-clause-made
returns-in-None-clause-made g c = if_absent g.G.Ground.made (Gives false (Ok false)) (λ at. Reaches c.args.message.now c.args.now at (Ok false)) c.args.found _ _ c.in-None.is (nothing g.G.Ground.made (Gives false (Ok false)) _ (g.met.G.Ground.made_nothing _) (record { result_is = refl; entries_are = refl }))
