use Rattle.std.proofs.Common.{List, ap, sym, ◌∙◌}
use Rattle.std.specs.Prelude.{filter, option_map, slice_get}
use Rattle.std.proofs.lemmas.Option.{slice_get-map}
use Rattle.js_model.specs.declared.consumer.Consumer.{Consumer}
use Rattle.js_model.specs.Streams.{is_push}
use Rattle.stored_stream.proofs.Lists.{filter-map}
use Rattle.followed_stream.specs.Followers.{Following}
use Rattle.stream_state.proofs.state.StreamState.push.Goals as goal

pub returns : goal.returns
returns c =
    let fs = c.followers.result.now in
    let consumer = λ (f : Following). f.consumer in
    record {
      value = rw (← c.self.view_is)
          (ap (option_map consumer) c.push_among.ensures.value
          ∙ sym (slice_get-map consumer (filter (λ (f : Following). is_push f.consumer) fs) c.args.at)
          ∙ ap (λ (cs : List Consumer). slice_get cs c.args.at) (sym (filter-map consumer is_push fs) ∙ ap (filter is_push) c.followers.ensures.value));
    }
