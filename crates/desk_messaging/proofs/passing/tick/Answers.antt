use Rattle.std.proofs.Common.{Ok, refl}
use Rattle.js_api.specs.Answering.{Done}
use Rattle.js_api.specs.Calls.{Feeds, Passes, Ticks, Turns}
use Rattle.js_api.specs.Stages.{Then, Gives}
use Rattle.desk_ground.proofs.Stages.{answered, goes_on, nothing, stops_by}
use Rattle.desk_messaging.proofs.passing.tick.Goals as goal

pub returns-in_err-found-clause-made : goal.returns-in_err-found-clause-made
returns-in_err-found-clause-made g c =
    (answered g.G.Ground.made (λ (u : Unit {0}). Done) (Ticks c.args.now) _ _ _ (stops_by g.G.Ground.made Turns (λ found. Then (Passes c.args.now found) (λ ready. Feeds c.args.now found)) c.turn.result _ _ _ _ c.in_err-found.was c.from_residual.ensures.1 c.turn.ensures.made))

pub returns-in_err-pass-clause-made : goal.returns-in_err-pass-clause-made
returns-in_err-pass-clause-made g c =
    (answered g.G.Ground.made (λ (u : Unit {0}). Done) (Ticks c.args.now) _ _ _
    (goes_on g.G.Ground.made g.met.G.Ground.made_more Turns (λ found. Then (Passes c.args.now found) (λ ready. Feeds c.args.now found)) c.turn.result c.in_ok-found.found _ _ _ _ c.in_ok-found.was c.turn.ensures.made
    (stops_by g.G.Ground.made (Passes c.args.now c.in_ok-found.found) (λ ready. Feeds c.args.now c.in_ok-found.found) c.pass.result _ _ _ _ c.in_err-pass.was c.from_residual-in_err-pass.ensures.1 c.pass.ensures.made)))

pub returns-clause-made : goal.returns-clause-made
returns-clause-made g c =
    answered g.G.Ground.made (λ (u : Unit {0}). Done) (Ticks c.args.now) (Ok tt) _ _
    (goes_on g.G.Ground.made g.met.G.Ground.made_more Turns (λ found. Then (Passes c.args.now found) (λ ready. Feeds c.args.now found)) c.turn.result c.in_ok-found.found (Ok tt) _ _ _ c.in_ok-found.was c.turn.ensures.made
    (goes_on g.G.Ground.made g.met.G.Ground.made_more (Passes c.args.now c.in_ok-found.found) (λ ready. Feeds c.args.now c.in_ok-found.found) c.pass.result _ (Ok tt) _ _ _ c.in_ok-pass.was c.pass.ensures.made
    (nothing g.G.Ground.made (Gives tt (Ok tt)) _ (g.met.G.Ground.made_nothing _) (record { result_is = refl; entries_are = refl }))))
