use Rattle.std.proofs.Common.{◌++◌, List, [], ◌∷◌, ap, sym, take, ◌∙◌}
use Rattle.std.specs.List.{flat_map}
use Rattle.std.proofs.lemmas.List.{flat_map_more, take_more}
use Rattle.js_base.specs.declared.out.Out.{Out}
use Rattle.js_model.specs.Advance.{consumer_outs}
use Rattle.followed_stream.specs.Followers.{Following}
use Rattle.stream_state.proofs.telling.told.Goals as goal

pub loop-follower-preserved : goal.loop-follower-preserved
loop-follower-preserved c =
    let fs = c.args.followers.now in
    let n = c.loop-follower.follower-index in
    let item = c.follower-item.result in
    let outs = λ (f : Following). consumer_outs c.args.now f.consumer in
    c.in_ok-tell_advance.ensures.ok
    ∙ ap (λ (told : List Out). told ++ outs item) c.loop-follower.invariant
    ∙ flat_map_more outs [] (take n fs) item
    ∙ ap (flat_map outs) (ap (λ (f : Following). take n fs ++ f ∷ []) c.follower-item.is ∙ sym (take_more fs n item c.loop-follower-test.true))
