use Rattle.std.proofs.Common.{◌≡◌, ◌≤◌, List, length, ap, sym, subst, ◌∙◌, arith}
use Rattle.std.proofs.lemmas.List.{length-map}
use Rattle.js_base.specs.Bytes.{Bytes}
use Rattle.js_model.specs.declared.stream.Stream.{Stream}
use Rattle.js_model.specs.declared.consumer.Consumer.{Consumer}
use Rattle.js_model.specs.Advance.{advance}
use Rattle.followed_stream.specs.Followers.{Following}
use Rattle.stream_state.specs.Serving.{FindsReady}
use Rattle.stream_state.proofs.Handed.{as_many, finds_all}
use Rattle.stream_state.proofs.state.StreamState.next_ready.Goals as goal

pub returns-in-None : goal.returns-in-None
returns-in-None c =
    let s = c.args.self.now in
    let a = advance s c.args.now in
    let fs = c.followers-count.result.now in
    let found = c.ready_among-in-None.result in
    let all : length fs ≡ length s.consumers =
    sym (length-map fs (λ (f : Following). f.consumer)) ∙ ap (λ (cs : List Consumer). length cs) c.followers-count.ensures.value ∙ ap (λ (x : Stream). length x.consumers) c.self.view_is in
    let many : length a.consumers ≡ length s.consumers = as_many s c.args.now in
    let within : length a.consumers ≤ length fs = omega (arith, all, many) in
    record {
      finds = subst (λ (names : List Bytes). FindsReady a names found) c.as_slice-listening.ensures
          (finds_all a c.as_slice-listening.result.now c.self.inside.turn (length fs) found within c.in-None.ensures.finds c.ready_among-in-None.ensures.finds);
    }
