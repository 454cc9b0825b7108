use Rattle.api_calls.specs.declared.call.ApiCall.TheVariants as calls
use Rattle.api_calls.specs.Names.{name_of}
use Rattle.js_model.specs.declared.event.What.TheVariants as whats
use Rattle.js_api.specs.OneStream.{IsAbsent, IsOnStream, free_if_dropped}
use Rattle.desk_ground.proofs.Stages.{if_absent, if_found}
use Rattle.desk_streams.proofs.deleting.drop_found.Goals as goal

pub returns-in-Some-clause-made : goal.returns-in-Some-clause-made
returns-in-Some-clause-made g c = if_found g.G.Ground.made (IsAbsent (name_of calls.StreamDelete) c.args.to.now c.drop_at.result) (λ at. IsOnStream (name_of calls.StreamDelete) at (whats.Drop c.args.to.now) c.args.now (free_if_dropped at) c.drop_at.result) c.args.found c.in-Some.at _ _ c.in-Some.is c.drop_at.ensures.made

pub returns-in-None-clause-made : goal.returns-in-None-clause-made
returns-in-None-clause-made g c = if_absent g.G.Ground.made (IsAbsent (name_of calls.StreamDelete) c.args.to.now c.refuse_for.result) (λ at. IsOnStream (name_of calls.StreamDelete) at (whats.Drop c.args.to.now) c.args.now (free_if_dropped at) c.refuse_for.result) c.args.found _ _ c.in-None.is c.refuse_for.ensures.made
