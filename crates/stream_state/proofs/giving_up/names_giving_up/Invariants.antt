use Rattle.std.proofs.Common.{◌≡◌, map, take}
use Rattle.followed_stream.specs.Followers.{Following}
use Rattle.stream_state.specs.GivingUp.{giving_up}
use Rattle.stream_state.proofs.giving_up.names_giving_up.Given as goal

-- the names so far
abbrev pub invariant-loop-follower : goal.invariant-loop-follower
invariant-loop-follower l = l.names ≡ giving_up l.now (map (λ (f : Following). f.consumer) (take l.follower-index l.followers))
