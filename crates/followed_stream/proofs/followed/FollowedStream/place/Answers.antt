use Rattle.std.proofs.Common.{ap, ◌∙◌}
use Rattle.std.specs.List.{position}
use Rattle.followed_stream.specs.Followers.{is_named}
use Rattle.followed_stream.proofs.Naming.{place_is_of}
use Rattle.followed_stream.proofs.followed.FollowedStream.place.Goals as goal

pub returns : goal.returns
returns c =
    let i = c.self.inside in
    record { value = rw (← c.self.view_is) (place_is_of c.args.name.now i.followers.items c.place_of.result (c.place_of.ensures.value ∙ ap (position (is_named c.args.name.now)) c.as_slice.ensures.value)) }
