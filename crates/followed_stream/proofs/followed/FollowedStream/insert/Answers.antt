use Rattle.std.proofs.Common.{◌≡◌, ℕ, List, None, length, ap, sym, subst, ◌∙◌, arith}
use Rattle.std.specs.List.{insert}
use Rattle.js_base.specs.Bytes.{Bytes}
use Rattle.js_model.specs.declared.consumer.Consumer.{Consumer}
use Rattle.js_model.specs.declared.stream.Stream.{Stream}
use Rattle.js_model.specs.Consumers.{with_new}
use Rattle.js_model.specs.Streams.{by_name}
use Rattle.consumer_need.specs.Stored.{HoldsStored}
use Rattle.followed_stream.specs.Followers.{attended, Following}
use Rattle.followed_stream.proofs.Attending.{sound_with}
use Rattle.followed_stream.proofs.Makes.{before_name, followed_made, made}
use Rattle.followed_stream.proofs.followed.FollowedStream.insert.Goals as goal

pub of-follower-requires : goal.of-follower-requires
of-follower-requires c = let i = c.self.inside in record { sound = sound_with (attended i.stored i.followers.items) i.stored.consumers c.self.invariant.attended.sound }

pub insert-requires : goal.insert-requires
insert-requires c =
    let l = c.place_before-place.ensures.within in
    let same = ap (λ (fs : List Following). length fs) c.as_slice.ensures.value in
    omega (arith, l, same, c.self.inside.followers.ok.0)

pub invariant_of-self-2 : goal.invariant_of-self-2
invariant_of-self-2 c =
    let i = c.self.inside in
    let new = c.of-follower.result in
    let place : c.place_before-place.result ≡ before_name new.consumer.name i.followers.items =
    c.place_before-place.ensures.value
    ∙ ap (λ (n : Bytes). before_name n c.as_slice.result.now) c.name.ensures.value
    ∙ ap (λ (fs : List Following). before_name c.args.consumer.name fs) c.as_slice.ensures.value
    ∙ ap (λ (x : Consumer). before_name x.name i.followers.items) (sym c.of-follower.ensures.value) in
    let items = c.in_ok-insert.ensures.items ∙ ap (λ (k : ℕ). insert i.followers.items k new) place in
    rw items
    (followed_made i.stored i.followers.items c.self.invariant new
    (subst (λ (x : Consumer). HoldsStored (attended i.stored i.followers.items) x) (sym c.of-follower.ensures.value) (subst (λ (s : Stream). HoldsStored s c.args.consumer) (sym c.self.view_is) c.requires.holds))
    (subst (λ (x : Consumer). by_name (attended i.stored i.followers.items).consumers x.name ≡ None) (sym c.of-follower.ensures.value) (subst (λ (s : Stream). by_name s.consumers c.args.consumer.name ≡ None) (sym c.self.view_is) c.requires.absent))
    c.of-follower.ensures.counted)

pub returns-clause-ok : goal.returns-clause-ok
returns-clause-ok c =
    let i = c.self.inside in
    let new = c.of-follower.result in
    let place : c.place_before-place.result ≡ before_name new.consumer.name i.followers.items =
    c.place_before-place.ensures.value
    ∙ ap (λ (n : Bytes). before_name n c.as_slice.result.now) c.name.ensures.value
    ∙ ap (λ (fs : List Following). before_name c.args.consumer.name fs) c.as_slice.ensures.value
    ∙ ap (λ (x : Consumer). before_name x.name i.followers.items) (sym c.of-follower.ensures.value) in
    let items = c.in_ok-insert.ensures.items ∙ ap (λ (k : ℕ). insert i.followers.items k new) place in
    rw (← c.self.view_is)
    (ap (λ (fs : List Following). attended i.stored fs) items
    ∙ made i.stored i.followers.items c.self.invariant new
    ∙ ap (λ (x : Consumer). record (attended i.stored i.followers.items) { consumers = with_new (attended i.stored i.followers.items).consumers x }) c.of-follower.ensures.value)

pub returns-clause-sound : goal.returns-clause-sound
returns-clause-sound c = (invariant_of-self-2 c).attended
