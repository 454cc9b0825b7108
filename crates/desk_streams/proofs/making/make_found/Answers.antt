use Rattle.std.proofs.Common.{None, Ok, refl}
use Rattle.js_api.specs.Stages.{Gives}
use Rattle.js_api.specs.Making.{IsPreparing}
use Rattle.stream_config.specs.Defaults.{default_config}
use Rattle.desk_ground.proofs.Stages.{if_absent, if_found, nothing}
use Rattle.desk_streams.proofs.making.make_found.Goals as goal

pub returns-in-Some-clause-made : goal.returns-in-Some-clause-made
returns-in-Some-clause-made g c = if_found g.G.Ground.made (IsPreparing c.args.name.now (default_config c.args.name.now c.args.subject.now) c.args.now (Ok None)) (λ at. Gives None (Ok None)) c.args.found _ _ _ c.in-Some.is (nothing g.G.Ground.made (Gives None (Ok None)) _ (g.met.G.Ground.made_nothing _) (record { result_is = refl; entries_are = refl }))

pub returns-in-None-clause-made : goal.returns-in-None-clause-made
returns-in-None-clause-made g c = if_absent g.G.Ground.made (IsPreparing c.args.name.now (default_config c.args.name.now c.args.subject.now) c.args.now c.make_absent.result) (λ at. Gives None c.make_absent.result) c.args.found _ _ c.in-None.is c.make_absent.ensures.made
