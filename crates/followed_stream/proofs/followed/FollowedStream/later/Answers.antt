use Rattle.std.proofs.Common.{List, sym, ap, subst, ◌∙◌}
use Rattle.js_model.specs.Advance.{stream_at}
use Rattle.followed_stream.specs.Followers.{attended, AreFollowed, Following}
use Rattle.followed_stream.proofs.followed.FollowedStream.later.Goals as goal

pub at-requires : goal.at-requires
at-requires c =
    let i = c.self.inside in
    record { followed = subst (λ (fs : List Following). AreFollowed i.stored fs) (sym c.as_slice.ensures.value) c.self.invariant }

pub returns : goal.returns
returns c =
    let i = c.self.inside in
    record { value = rw (← c.self.view_is) (c.at.ensures.value ∙ ap (λ (fs : List Following). stream_at (attended i.stored fs) c.args.now) c.as_slice.ensures.value) }
