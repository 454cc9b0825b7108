use Rattle.std.proofs.Common.{◌≡◌, List, map, ap, sym, subst, ◌∙◌}
use Rattle.std.specs.Prelude.{IfOk}
use Rattle.std.proofs.lemmas.Simd.{map-map}
use Rattle.js_base.specs.Bytes.{Bytes}
use Rattle.js_model.specs.declared.consumer.Consumer.{Consumer}
use Rattle.js_model.specs.Events.{page_of}
use Rattle.followed_stream.specs.Followers.{Following}
use Rattle.stream_state.proofs.Paging.{page_map}
use Rattle.stream_state.proofs.state.StreamState.consumer_names.Goals as goal

pub returns : goal.returns
returns c =
    let fs = c.followers.result.now in
    let names : map (λ (f : Following). f.consumer.name) c.page.result.now ≡ page_of 1024 c.args.offset (map (λ (d : Consumer). d.name) c.self.inside.stream.consumers) =
    ap (map (λ (f : Following). f.consumer.name)) c.page.ensures.value
    ∙ page_map (λ (f : Following). f.consumer.name) 1024 c.args.offset fs
    ∙ ap (page_of 1024 c.args.offset) (sym (map-map (λ (d : Consumer). d.name) (λ (f : Following). f.consumer) fs) ∙ ap (map (λ (d : Consumer). d.name)) c.followers.ensures.value) in
    record { value = rw (← c.self.view_is) (subst (λ (list : List Bytes). IfOk c.names.result (λ told. told ≡ list)) names c.names.ensures.value) }
