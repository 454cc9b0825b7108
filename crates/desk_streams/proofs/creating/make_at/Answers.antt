use Rattle.js_model.specs.declared.event.What.TheVariants as whats
use Rattle.desk_streams.proofs.Cataloging.{made_at}
use Rattle.desk_streams.proofs.creating.make_at.Goals as goal

pub returns-clause-made : goal.returns-clause-made
returns-clause-made g c = made_at g.G.Ground.made g.met.G.Ground.made_more c.args.at (whats.Make c.args.to.now c.args.config) c.args.now c.ask_make-outcome.result _ _ _ c.ask_make-outcome.ensures.made c.free_unless_made.ensures.made
