use Rattle.std.proofs.Common.{ap, ◌∙◌, Ok}
use Rattle.api_calls.specs.declared.call.ApiCall.TheVariants as calls
use Rattle.api_calls.specs.Names.{name_of}
use Rattle.js_api.specs.AllStreams.{names}
use Rattle.desk_streams.proofs.Walks.{over_all, over_cut, over_failed}
use Rattle.desk_streams.proofs.listing.list_names.Goals as goal

pub returns-in_err-walk-clause-made : goal.returns-in_err-walk-clause-made
returns-in_err-walk-clause-made g c = over_cut g.G.Ground.made g.met.G.Ground.made_more (name_of calls.StreamNames) c.args.to.now c.args.now (names c.args.to.now c.args.offset c.args.pattern.now) c.walk.result _ _ _ c.walk.ensures.made _ _ c.in_err-walk.was c.from_residual.ensures.1 (g.met.G.Ground.made_nothing _)

pub returns-in-None-clause-made : goal.returns-in-None-clause-made
returns-in-None-clause-made g c = over_all g.G.Ground.made g.met.G.Ground.made_more (name_of calls.StreamNames) c.args.to.now c.args.now (names c.args.to.now c.args.offset c.args.pattern.now) c.walk.result c.walk.new.infos.items _ _ c.walk.ensures.made c.answer_names.result _ (c.in_ok-walk.was ∙ ap Ok c.in-None.is) c.answer_names.ensures.made

pub returns-in-Some-clause-made : goal.returns-in-Some-clause-made
returns-in-Some-clause-made g c = over_failed g.G.Ground.made g.met.G.Ground.made_more (name_of calls.StreamNames) c.args.to.now c.args.now (names c.args.to.now c.args.offset c.args.pattern.now) c.walk.result _ _ _ c.walk.ensures.made c.in-Some.reason c.refuse_for.result _ (c.in_ok-walk.was ∙ ap Ok c.in-Some.is) c.refuse_for.ensures.made
