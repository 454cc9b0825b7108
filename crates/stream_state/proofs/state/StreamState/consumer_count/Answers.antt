use Rattle.std.proofs.Common.{◌≡◌, List, length, ap, sym, ◌∙◌, arith}
use Rattle.std.proofs.lemmas.List.{length-map}
use Rattle.js_model.specs.declared.consumer.Consumer.{Consumer}
use Rattle.followed_stream.specs.Followers.{Following}
use Rattle.stream_state.proofs.state.StreamState.consumer_count.Goals as goal

pub returns-clause-few : goal.returns-clause-few
returns-clause-few c =
    let all : length c.followers.result.now ≡ length c.self.inside.stream.consumers =
    sym (length-map c.followers.result.now (λ (f : Following). f.consumer)) ∙ ap (λ (cs : List Consumer). length cs) c.followers.ensures.value in
    omega (arith, all, c.self.invariant.proper.few)
