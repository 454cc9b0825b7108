use Rattle.std.proofs.Common.{◌≡◌, ◌++◌, List, [], ◌∷◌, ap, map, sym, subst, take, ◌∙◌}
use Rattle.std.proofs.lemmas.List.{map_more}
use Rattle.std.proofs.lemmas.List.Elements.{All-get_or}
use Rattle.js_model.specs.declared.reply.ConsumerInfo.{ConsumerInfo}
use Rattle.js_model.specs.Counts.{consumer_info, pending_count}
use Rattle.stored_stream.proofs.Purges.{take_long}
use Rattle.followed_stream.specs.Followers.{Following}
use Rattle.stream_state.proofs.listing.infos.Goals as goal

pub loop-follower-preserved : goal.loop-follower-preserved
loop-follower-preserved c = λ s named counted.
    let fs = c.args.followers.now in
    let n = c.loop-follower.follower-index in
    let item = c.follower-item.result in
    let info = λ (f : Following). consumer_info s f.consumer in
    let own : item.undelivered ≡ pending_count s item.consumer =
    subst (λ (f : Following). f.undelivered ≡ pending_count s f.consumer) (sym c.follower-item.is) (All-get_or (λ (f : Following). f.undelivered ≡ pending_count s f.consumer) fs n item c.loop-follower-test.true counted) in
    c.in_ok-push.ensures.ok
    ∙ ap (λ (infos : List ConsumerInfo). infos ++ c.in_ok-info.field-0 ∷ []) (c.loop-follower.invariant s named counted)
    ∙ ap (λ (told : ConsumerInfo). map info (take n fs) ++ told ∷ []) (c.in_ok-info.ensures.value s named own ∙ ap info c.follower-item.is)
    ∙ sym (map_more info fs n item c.loop-follower-test.true)

pub returns : goal.returns
returns c = record {
  value = λ s named counted.
      c.loop-follower.invariant s named counted ∙ ap (map (λ (f : Following). consumer_info s f.consumer)) (take_long c.loop-follower.follower-index c.args.followers.now c.loop-follower-test.false);
}
