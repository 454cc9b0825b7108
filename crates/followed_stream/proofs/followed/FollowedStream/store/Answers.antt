use Rattle.std.proofs.Common.{◌≡◌, ℕ, ◌+◌, ◌^◌, ◌<◌, List, length, map, sym, ap, subst, ◌∙◌}
use Rattle.js_base.specs.Bytes.{Bytes}
use Rattle.js_model.specs.declared.stream.Stream.{Stream}
use Rattle.stored_stream.proofs.Sounding.{with_message_is}
use Rattle.followed_stream.specs.Followers.{attended, gaining, AreFollowed, Following}
use Rattle.followed_stream.proofs.Followings.{as_many, followed_more, room_more, stored_more}
use Rattle.std.proofs.lemmas.List.{with_items_is}
use Rattle.followed_stream.proofs.followed.FollowedStream.store.Goals as goal

pub gain_all-requires : goal.gain_all-requires
gain_all-requires c = record { room = rw c.as_mut_slice.ensures.value (room_more c.self.inside.stored c.self.inside.followers.items c.self.invariant) }

pub invariant_of-self-2 : goal.invariant_of-self-2
invariant_of-self-2 c =
    let s = c.self.inside.stored in
    let p = c.args.publish.now in
    let fs = c.self.inside.followers.items in
    let seq : c.last-seq.result ≡ s.last + 1 = c.last-seq.ensures.value ∙ ap (λ (x : Stream). x.last) (c.in_ok-store.ensures.ok ∙ with_message_is s p) in
    let told : c.gain_all.new.followers ≡ map (gaining p.subject (s.last + 1)) fs =
    c.gain_all.ensures.value
    ∙ ap (λ (x : Bytes). map (gaining x c.last-seq.result) c.as_mut_slice.result.now) c.as_slice.ensures
    ∙ ap (λ (n : ℕ). map (gaining p.subject n) c.as_mut_slice.result.now) seq
    ∙ ap (map (gaining p.subject (s.last + 1))) c.as_mut_slice.ensures.value in
    let written = with_items_is c.self.inside.followers c.gain_all.new.followers (as_many c.as_mut_slice.result.now fs c.gain_all.new.followers (gaining c.as_slice.result.now c.last-seq.result) c.as_mut_slice.ensures.value c.gain_all.ensures.value ∙ sym c.self.inside.followers.ok.0) in
    let room : length s.messages + 1 < 2 ^ 32 = rw (← c.self.view_is) at c.requires.room in
    let bound : s.last + 1 < 2 ^ 62 = rw (← c.self.view_is) at c.requires.numbers in
    subst (λ (l : List Following). AreFollowed c.store.new.self l) (sym (written ∙ told))
    (subst (λ (x : Stream). AreFollowed x (map (gaining p.subject (s.last + 1)) fs)) (sym c.in_ok-store.ensures.ok) (followed_more s fs c.self.invariant p c.requires.proper room bound))

pub returns-clause-ok : goal.returns-clause-ok
returns-clause-ok c =
    let s = c.self.inside.stored in
    let p = c.args.publish.now in
    let fs = c.self.inside.followers.items in
    let told : c.gain_all.new.followers ≡ map (gaining c.as_slice.result.now c.last-seq.result) fs = c.gain_all.ensures.value ∙ ap (map (gaining c.as_slice.result.now c.last-seq.result)) c.as_mut_slice.ensures.value in
    let written = with_items_is c.self.inside.followers c.gain_all.new.followers (as_many c.as_mut_slice.result.now fs c.gain_all.new.followers (gaining c.as_slice.result.now c.last-seq.result) c.as_mut_slice.ensures.value c.gain_all.ensures.value ∙ sym c.self.inside.followers.ok.0) in
    rw (← c.self.view_is)
    (ap (λ (l : List Following). attended c.store.new.self l) (written ∙ told)
    ∙ ap (λ (x : Stream). attended x (map (gaining c.as_slice.result.now c.last-seq.result) fs)) c.in_ok-store.ensures.ok
    ∙ stored_more s fs c.self.invariant p c.as_slice.result.now c.last-seq.result)

pub returns-clause-sound : goal.returns-clause-sound
returns-clause-sound c = (invariant_of-self-2 c).attended
