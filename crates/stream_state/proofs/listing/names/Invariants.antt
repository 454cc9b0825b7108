use Rattle.std.proofs.Common.{◌≡◌, map, take}
use Rattle.followed_stream.specs.Followers.{Following}
use Rattle.stream_state.proofs.listing.names.Given as goal

-- the names so far
abbrev pub invariant-loop-follower : goal.invariant-loop-follower
invariant-loop-follower l = l.names ≡ map (λ (f : Following). f.consumer.name) (take l.follower-index l.followers)
