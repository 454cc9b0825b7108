use Rattle.std.proofs.Common.{Ok, false, refl}
use Rattle.js_api.specs.OneConsumer.{IsToldAt}
use Rattle.js_api.specs.Stages.{Gives}
use Rattle.desk_ground.proofs.Stages.{if_absent, if_found, nothing}
use Rattle.desk_messaging.specs.Tellings.{what_of}
use Rattle.desk_messaging.proofs.Told.{told_at}
use Rattle.desk_messaging.proofs.hearing.tell_found.Goals as goal

pub returns-in-Some-clause-made : goal.returns-in-Some-clause-made
returns-in-Some-clause-made g c =
    let what = what_of c.args.telling c.args.to.now in
    if_found g.G.Ground.made (Gives false c.end_telling-result.result) (λ at. IsToldAt what c.args.now at c.end_telling-result.result) c.args.found c.in-Some.at _ _ c.in-Some.is
    (told_at g.G.Ground.made what c.args.now c.in-Some.at c.tell_at-outcome.result c.end_telling-result.result _ _ c.tell_at-outcome.ensures.made c.end_telling-result.ensures.ends)

pub returns-in-None-clause-made : goal.returns-in-None-clause-made
returns-in-None-clause-made g c =
    if_absent g.G.Ground.made (Gives false (Ok false)) (λ at. IsToldAt (what_of c.args.telling c.args.to.now) c.args.now at (Ok false)) c.args.found _ _ c.in-None.is
    (nothing g.G.Ground.made (Gives false (Ok false)) _ (g.met.G.Ground.made_nothing _) (record { result_is = refl; entries_are = refl }))
