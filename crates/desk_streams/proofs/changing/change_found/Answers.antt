use Rattle.api_calls.specs.declared.call.ApiCall.TheVariants as calls
use Rattle.api_calls.specs.Names.{name_of}
use Rattle.js_api.specs.OneStream.{IsAbsent, IsChanging}
use Rattle.desk_ground.proofs.Stages.{if_absent, if_found}
use Rattle.desk_streams.proofs.changing.change_found.Goals as goal

pub returns-in-Some-clause-made : goal.returns-in-Some-clause-made
returns-in-Some-clause-made g c = if_found g.G.Ground.made (IsAbsent (name_of calls.StreamUpdate) c.args.to.now c.change_at.result) (λ at. IsChanging c.args.config c.args.to.now c.args.now at c.change_at.result) c.args.found c.in-Some.at _ _ c.in-Some.is c.change_at.ensures.made

pub returns-in-None-clause-made : goal.returns-in-None-clause-made
returns-in-None-clause-made g c = if_absent g.G.Ground.made (IsAbsent (name_of calls.StreamUpdate) c.args.to.now c.refuse_for.result) (λ at. IsChanging c.args.config c.args.to.now c.args.now at c.refuse_for.result) c.args.found _ _ c.in-None.is c.refuse_for.ensures.made
