use Rattle.std.proofs.Common.{◌≡◌, List, map, sym, ap, subst, ◌∙◌}
use Rattle.std.specs.Prelude.{All}
use Rattle.std.proofs.lemmas.List.Elements.{All-map}
use Rattle.followed_stream.specs.Delivering.{IsCurrentAt}
use Rattle.followed_stream.specs.Followers.{attended, standing, AreFollowed, Following}
use Rattle.followed_stream.proofs.Followings.{as_many, followed_standing, stood}
use Rattle.std.proofs.lemmas.List.{with_items_is}
use Rattle.followed_stream.proofs.followed.FollowedStream.advance_consumers.Goals as goal

pub invariant_of-self : goal.invariant_of-self
invariant_of-self c =
    let fs = c.self.inside.followers.items in
    let told : c.advance_all.new.followers ≡ map (standing c.args.now) fs = c.advance_all.ensures.value ∙ ap (map (standing c.args.now)) c.as_mut_slice.ensures.value in
    let written = with_items_is c.self.inside.followers c.advance_all.new.followers (as_many c.as_mut_slice.result.now fs c.advance_all.new.followers (standing c.args.now) c.as_mut_slice.ensures.value c.advance_all.ensures.value ∙ sym c.self.inside.followers.ok.0) in
    subst (λ (l : List Following). AreFollowed c.self.inside.stored l) (sym (written ∙ told)) (followed_standing c.self.inside.stored fs c.self.invariant c.args.now)

pub returns-clause-left : goal.returns-clause-left
returns-clause-left c =
    let fs = c.self.inside.followers.items in
    let told : c.advance_all.new.followers ≡ map (standing c.args.now) fs = c.advance_all.ensures.value ∙ ap (map (standing c.args.now)) c.as_mut_slice.ensures.value in
    let written = with_items_is c.self.inside.followers c.advance_all.new.followers (as_many c.as_mut_slice.result.now fs c.advance_all.new.followers (standing c.args.now) c.as_mut_slice.ensures.value c.advance_all.ensures.value ∙ sym c.self.inside.followers.ok.0) in
    rw (← c.self.view_is)
    (ap (λ (l : List Following). attended c.self.inside.stored l) (written ∙ told) ∙ stood c.self.inside.stored fs c.self.invariant c.args.now)

pub returns-clause-sound : goal.returns-clause-sound
returns-clause-sound c = (invariant_of-self c).attended

pub returns-clause-current : goal.returns-clause-current
returns-clause-current c =
    let fs = c.self.inside.followers.items in
    let written = with_items_is c.self.inside.followers c.advance_all.new.followers (as_many c.as_mut_slice.result.now fs c.advance_all.new.followers (standing c.args.now) c.as_mut_slice.ensures.value c.advance_all.ensures.value ∙ sym c.self.inside.followers.ok.0) in
    record { unspent = subst (λ (l : List Following). All (IsCurrentAt c.args.now) (map (λ f. f.consumer) l)) (sym written) (All-map (IsCurrentAt c.args.now) (λ (f : Following). f.consumer) c.advance_all.new.followers c.advance_all.ensures.current) }
