use Rattle.std.proofs.Common.{◌≡◌, ◌++◌, take, drop, map}
use Rattle.followed_stream.specs.Followers.{losing}
use Rattle.followed_stream.proofs.follower.lose_all.Given as goal

-- the followers so far know, and the others are as they were
abbrev pub invariant-loop-follower : goal.invariant-loop-follower
invariant-loop-follower l = l.followers ≡ map (losing l.subject l.seq) (take l.follower-index l.initial.followers) ++ drop l.follower-index l.initial.followers
