use Rattle.std.proofs.Common.{◌≡◌, List, map, sym, ap, subst, ◌∙◌}
use Rattle.js_base.specs.Bytes.{Bytes}
use Rattle.js_model.specs.declared.stream.Stream.{Stream}
use Rattle.followed_stream.specs.Followers.{attended, losing, AreFollowed, Following}
use Rattle.followed_stream.proofs.Followings.{as_many, followed_less, removed}
use Rattle.followed_stream.proofs.Going.{without_absent}
use Rattle.std.proofs.lemmas.List.{with_items_is}
use Rattle.followed_stream.proofs.followed.FollowedStream.remove.Goals as goal

pub returns-in_default-clause-left : goal.returns-in_default-clause-left
returns-in_default-clause-left c =
    let s = attended c.self.inside.stored c.self.inside.followers.items in
    rw (← c.self.view_is) (sym (without_absent s c.args.seq c.self.invariant.attended (sym c.in_default.ensures.value)))

pub invariant_of-self : goal.invariant_of-self
invariant_of-self c =
    let s = c.self.inside.stored in
    let fs = c.self.inside.followers.items in
    let m = c.in-Some.message.now in
    let told : c.lose_all.new.followers ≡ map (losing m.subject c.args.seq) fs =
    c.lose_all.ensures.value
    ∙ ap (λ (x : Bytes). map (losing x c.args.seq) c.as_mut_slice.result.now) c.as_slice.ensures
    ∙ ap (map (losing m.subject c.args.seq)) c.as_mut_slice.ensures.value in
    let written = with_items_is c.self.inside.followers c.lose_all.new.followers (as_many c.as_mut_slice.result.now fs c.lose_all.new.followers (losing c.as_slice.result.now c.args.seq) c.as_mut_slice.ensures.value c.lose_all.ensures.value ∙ sym c.self.inside.followers.ok.0) in
    subst (λ (l : List Following). AreFollowed c.remove.new.self l) (sym (written ∙ told))
    (subst (λ (x : Stream). AreFollowed x (map (losing m.subject c.args.seq) fs)) (sym c.remove.ensures.left) (followed_less s fs c.self.invariant c.args.seq m (sym c.in-Some.ensures.value)))

pub returns-clause-left : goal.returns-clause-left
returns-clause-left c =
    let s = c.self.inside.stored in
    let fs = c.self.inside.followers.items in
    let told : c.lose_all.new.followers ≡ map (losing c.as_slice.result.now c.args.seq) fs = c.lose_all.ensures.value ∙ ap (map (losing c.as_slice.result.now c.args.seq)) c.as_mut_slice.ensures.value in
    let written = with_items_is c.self.inside.followers c.lose_all.new.followers (as_many c.as_mut_slice.result.now fs c.lose_all.new.followers (losing c.as_slice.result.now c.args.seq) c.as_mut_slice.ensures.value c.lose_all.ensures.value ∙ sym c.self.inside.followers.ok.0) in
    rw (← c.self.view_is)
    (ap (λ (l : List Following). attended c.remove.new.self l) (written ∙ told)
    ∙ ap (λ (x : Stream). attended x (map (losing c.as_slice.result.now c.args.seq) fs)) c.remove.ensures.left
    ∙ removed s fs c.self.invariant c.args.seq c.as_slice.result.now)

pub returns-clause-sound : goal.returns-clause-sound
returns-clause-sound c = (invariant_of-self c).attended
