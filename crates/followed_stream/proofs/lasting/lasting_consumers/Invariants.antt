use Rattle.std.proofs.Common.{◌≡◌, map, take}
use Rattle.js_model.specs.Lasting.{lasting_consumer}
use Rattle.followed_stream.proofs.lasting.lasting_consumers.Given as goal

-- what outlives a crash of the consumers so far
abbrev pub invariant-loop-follower : goal.invariant-loop-follower
invariant-loop-follower l = l.lasting ≡ map lasting_consumer (map (λ f. f.consumer) (take l.follower-index l.followers))
