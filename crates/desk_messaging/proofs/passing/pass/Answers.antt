use Rattle.std.proofs.Common.{Ok, false, refl}
use Rattle.js_api.specs.Calls.{PassesAt}
use Rattle.js_api.specs.Stages.{Gives}
use Rattle.desk_ground.proofs.Stages.{if_absent, if_found, nothing}
use Rattle.desk_messaging.proofs.passing.pass.Goals as goal

pub returns-in-Some-clause-made : goal.returns-in-Some-clause-made
returns-in-Some-clause-made g c = if_found g.G.Ground.made (Gives false c.pass_at.result) (λ at. PassesAt c.args.now at c.pass_at.result) c.args.found c.in-Some.at _ _ c.in-Some.is c.pass_at.ensures.made

pub returns-in-None-clause-made : goal.returns-in-None-clause-made
returns-in-None-clause-made g c = if_absent g.G.Ground.made (Gives false (Ok false)) (λ at. PassesAt c.args.now at (Ok false)) c.args.found _ _ c.in-None.is (nothing g.G.Ground.made (Gives false (Ok false)) _ (g.met.G.Ground.made_nothing _) (record { result_is = refl; entries_are = refl }))
