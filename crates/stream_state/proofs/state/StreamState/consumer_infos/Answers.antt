use Rattle.std.proofs.Common.{◌≡◌, List, drop, map, ap, sym, subst, ◌∙◌}
use Rattle.std.specs.Prelude.{All, IfOk}
use Rattle.std.proofs.lemmas.List.Elements.{All-drop, All-take}
use Rattle.std.proofs.lemmas.Simd.{map-map}
use Rattle.js_model.specs.declared.stream_config.StreamConfig.{StreamConfig}
use Rattle.js_model.specs.declared.reply.ConsumerInfo.{ConsumerInfo}
use Rattle.js_model.specs.Counts.{consumer_info}
use Rattle.js_model.specs.Events.{page_of}
use Rattle.followed_stream.specs.Followers.{Following, IsCounted}
use Rattle.stream_state.proofs.Paging.{page_map}
use Rattle.stream_state.proofs.state.StreamState.consumer_infos.Goals as goal

pub returns : goal.returns
returns c =
    let s = c.self.inside.stream in
    let fs = c.followers.result.now in
    let page = c.page-followers.result.now in
    let counted : All (IsCounted s.messages) page =
    subst (All (IsCounted s.messages)) (sym c.page-followers.ensures.value) (All-take (IsCounted s.messages) 256 (drop c.args.offset fs) (All-drop (IsCounted s.messages) c.args.offset fs c.followers.ensures.counted)) in
    let infos : map (λ (f : Following). consumer_info s f.consumer) page ≡ page_of 256 c.args.offset (map (consumer_info s) s.consumers) =
    ap (map (λ (f : Following). consumer_info s f.consumer)) c.page-followers.ensures.value
    ∙ page_map (λ (f : Following). consumer_info s f.consumer) 256 c.args.offset fs
    ∙ ap (page_of 256 c.args.offset) (sym (map-map (consumer_info s) (λ (f : Following). f.consumer) fs) ∙ ap (map (consumer_info s)) c.followers.ensures.value) in
    record {
      value = rw (← c.self.view_is)
          (subst (λ (list : List ConsumerInfo). IfOk c.infos.result (λ told. told ≡ list)) infos (c.infos.ensures.value s (ap (λ (config : StreamConfig). config.name) (sym c.config.ensures.value)) counted));
    }
