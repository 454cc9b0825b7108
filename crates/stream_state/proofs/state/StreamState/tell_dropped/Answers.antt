use Rattle.std.proofs.Common.{◌≡◌, ◌++◌, List, ap, sym, subst, ◌∙◌}
use Rattle.std.specs.Prelude.{OnOk}
use Rattle.std.specs.List.{flat_map}
use Rattle.std.proofs.lemmas.List.Folds.{flat_map-map}
use Rattle.js_base.specs.declared.out.Out.{Out}
use Rattle.js_model.specs.Events.{farewells}
use Rattle.followed_stream.specs.Followers.{Following}
use Rattle.stream_state.proofs.state.StreamState.tell_dropped.Goals as goal

pub returns-clause-ok : goal.returns-clause-ok
returns-clause-ok c =
    let fs = c.followers.result.now in
    let told : flat_map (λ (f : Following). farewells f.consumer) fs ≡ flat_map farewells c.self.inside.stream.consumers =
    sym (flat_map-map farewells (λ (f : Following). f.consumer) fs) ∙ ap (flat_map farewells) c.followers.ensures.value in
    rw (← c.self.view_is) (subst (λ (outs : List Out). OnOk c.tell_all_dropped.result (c.tell_all_dropped.new.outs ≡ c.args.outs.now ++ outs)) told c.tell_all_dropped.ensures.ok)
