use Rattle.std.proofs.Common.{◌≡◌, ◌<◌, ◌≤◌, List, Some, get_or, length, sym, ap, subst, ◌∙◌}
use Rattle.std.specs.Prelude.{option_map}
use Rattle.std.proofs.lemmas.List.Elements.{All-get_or}
use Rattle.js_model.specs.declared.stream_config.StreamConfig.{StreamConfig}
use Rattle.js_model.specs.Counts.{consumer_info}
use Rattle.followed_stream.specs.Followers.{attended, Following, IsCounted}
use Rattle.followed_stream.proofs.Getting.{got, nothing_got}
use Rattle.followed_stream.proofs.followed.FollowedStream.info_at.Goals as goal

pub returns-in_default : goal.returns-in_default
returns-in_default c =
    let i = c.self.inside in
    let past : length i.followers.items ≤ c.args.place = subst (λ (fs : List Following). length fs ≤ c.args.place) c.deref.ensures.value c.in_default.ensures.lookup.3 in
    record { value = rw (← c.self.view_is) (sym (ap (option_map (consumer_info (attended i.stored i.followers.items))) (nothing_got i.followers.items c.args.place past))) }

pub returns : goal.returns
returns c =
    let i = c.self.inside in
    let f = c.in-Some.follower.now in
    let within : c.args.place < length i.followers.items = subst (λ (fs : List Following). c.args.place < length fs) c.deref.ensures.value c.in-Some.ensures.lookup.3.0 in
    let at : f ≡ get_or i.followers.items c.args.place f = subst (λ (fs : List Following). f ≡ get_or fs c.args.place f) c.deref.ensures.value c.in-Some.ensures.lookup.1 in
    let s = attended i.stored i.followers.items in
    let counted : IsCounted i.stored.messages f = subst (IsCounted i.stored.messages) (sym at) (All-get_or (IsCounted i.stored.messages) i.followers.items c.args.place f within c.self.invariant.counted) in
    let told = c.in_ok-info.ensures.value s (sym (ap (λ (config : StreamConfig). config.name) c.config.ensures.value)) counted in
    record { value = rw (← c.self.view_is) (ap Some told ∙ sym (ap (option_map (consumer_info s)) (got i.followers.items c.args.place f within at))) }
