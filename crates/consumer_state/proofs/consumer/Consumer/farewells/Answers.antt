use Rattle.std.proofs.Common.{◌++◌, map, ap, ◌∙◌}
use Rattle.std.specs.Option.{option_to_list}
use Rattle.std.specs.Prelude.{Option, slice_get}
use Rattle.js_model.specs.declared.consumer.Consumer.{Consumer}
use Rattle.js_model.specs.declared.consumer.Pull.{Pull}
use Rattle.consumer_texts.specs.Parting.{farewell_of}
use Rattle.consumer_state.proofs.Steps.{farewells_more}
use Rattle.consumer_state.proofs.consumer.Consumer.farewells.Goals as goal

pub loop-place-preserved : goal.loop-place-preserved
loop-place-preserved c =
    farewells_more c.args.self.now.waiting c.loop-place.place c.loop-place.outs.items c.put_farewell.new.outs.items c.loop-place.invariant
    (c.in_ok-put_farewell.ensures.ok
    ∙ ap (λ (o : Option Pull). c.loop-place.outs.items ++ map farewell_of (option_to_list o)) (c.at.ensures.value ∙ ap (λ (x : Consumer). slice_get x.waiting c.loop-place.place) c.self.view_is))
