use Rattle.std.proofs.Common.{◌≡◌, take}
use Rattle.std.specs.List.{flat_map}
use Rattle.js_model.specs.Events.{farewells}
use Rattle.followed_stream.specs.Followers.{Following}
use Rattle.stream_state.proofs.telling.told_dropped.Given as goal

-- what those so far send
abbrev pub invariant-loop-follower : goal.invariant-loop-follower
invariant-loop-follower l = l.told ≡ flat_map (λ (f : Following). farewells f.consumer) (take l.follower-index l.followers)
