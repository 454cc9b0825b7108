use Rattle.std.proofs.Common.{true, Ok, refl}
use Rattle.js_api.specs.Stages.{Gives, Sends}
use Rattle.desk_ground.proofs.Stages.{goes_on, nothing, stops_by}
use Rattle.desk_ground.proofs.telling.answer_by.Goals as goal

pub returns-in_err-send_all-clause-made : goal.returns-in_err-send_all-clause-made
returns-in_err-send_all-clause-made g c = stops_by g.G.Ground.made (Sends c.args.outs.now) (λ _. Gives true) c.send_all.result _ _ _ _ c.in_err-send_all.was c.from_residual.ensures.1 c.send_all.ensures.made

pub returns-clause-made : goal.returns-clause-made
returns-clause-made g c = goes_on g.G.Ground.made g.met.G.Ground.made_more (Sends c.args.outs.now) (λ _. Gives true) c.send_all.result tt (Ok true) _ _ _ c.in_ok-send_all.was c.send_all.ensures.made (nothing g.G.Ground.made (Gives true (Ok true)) _ (g.met.G.Ground.made_nothing _) (record { result_is = refl; entries_are = refl }))
