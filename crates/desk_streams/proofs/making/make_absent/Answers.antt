use Rattle.std.proofs.Common.{Ok, refl, inl}
use Rattle.js_api.specs.Making.{GoesOnTaken}
use Rattle.js_api.specs.OneStream.{IsAdding}
use Rattle.js_api.specs.Stages.{Reads}
use Rattle.js_api.specs.declared.fault.DeskFault.TheVariants as faults
use Rattle.stream_config.specs.Defaults.{default_config}
use Rattle.desk_ground.proofs.Stages.{goes_on, nothing}
use Rattle.desk_streams.proofs.making.make_absent.Goals as goal

pub returns-in-Ok-clause-made : goal.returns-in-Ok-clause-made
returns-in-Ok-clause-made g c =
    let config = default_config c.args.name.now c.args.subject.now in
    goes_on g.G.Ground.made g.met.G.Ground.made_more (Reads config) (λ given. IsAdding c.args.name.now given (GoesOnTaken given c.args.now)) (Ok config) config c.add_prepared.result _ _ _ refl (nothing g.G.Ground.made _ _ (g.met.G.Ground.made_nothing _) (refl, refl))
    (rw c.in-Ok.ensures.config at c.add_prepared.ensures.made)

pub returns-in-Err-clause-made : goal.returns-in-Err-clause-made
returns-in-Err-clause-made g c = nothing g.G.Ground.made _ _ (g.met.G.Ground.made_nothing _) (inl (record { fault = faults.NoMemory; result_is = refl; ended = refl }))
