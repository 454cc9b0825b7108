use Rattle.api_calls.specs.Names.{name_of}
use Rattle.js_api.specs.OneStream.{IsAbsent, IsOnStream, unchanged}
use Rattle.desk_ground.proofs.Stages.{if_absent, if_found}
use Rattle.desk_streams.specs.Asking.{call_of, what_of}
use Rattle.desk_streams.proofs.Questions.{asked_there}
use Rattle.desk_streams.proofs.asking.ask_found.Goals as goal

pub returns-in-Some-clause-made : goal.returns-in-Some-clause-made
returns-in-Some-clause-made g c =
    let name = name_of (call_of c.args.asking) in
    let what = what_of c.args.asking c.args.to.now in
    if_found g.G.Ground.made (IsAbsent name c.args.to.now c.end_call-result.result) (λ at. IsOnStream name at what c.args.now unchanged c.end_call-result.result) c.args.found c.in-Some.at _ _ c.in-Some.is
    (asked_there g.G.Ground.made g.met.G.Ground.made_more c.args.asking c.args.to.now c.args.now c.call.result c.in-Some.at c.ask_at-outcome.result c.end_call-result.result _ _ _ (g.met.G.Ground.made_nothing _) c.call.ensures.value
    c.ask_at-outcome.ensures.made c.end_call-result.ensures.made)

pub returns-in-None-clause-made : goal.returns-in-None-clause-made
returns-in-None-clause-made g c =
    let name = name_of (call_of c.args.asking) in
    if_absent g.G.Ground.made (IsAbsent name c.args.to.now c.refuse_for.result) (λ at. IsOnStream name at (what_of c.args.asking c.args.to.now) c.args.now unchanged c.refuse_for.result) c.args.found _ _ c.in-None.is
    (rw c.call-in-None.ensures.value at c.refuse_for.ensures.made)
