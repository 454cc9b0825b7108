use Rattle.std.proofs.Common.{Ok, refl}
use Rattle.js_api.specs.Answering.{Settled}
use Rattle.js_api.specs.Calls.{Passes, Resumes, Settles}
use Rattle.desk_ground.proofs.Stages.{answered, goes_on}
use Rattle.desk_messaging.proofs.passing.settle.Goals as goal

pub returns-clause-made : goal.returns-clause-made
returns-clause-made g c =
    answered g.G.Ground.made Settled (Settles c.args.now) c.pass.result _ _
    (goes_on g.G.Ground.made g.met.G.Ground.made_more Resumes (Passes c.args.now) (Ok c.resume-last.result) c.resume-last.result c.pass.result _ _ _ refl c.resume-last.ensures.made c.pass.ensures.made)
