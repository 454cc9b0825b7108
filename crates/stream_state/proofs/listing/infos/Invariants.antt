use Rattle.std.proofs.Common.{◌≡◌, map, take}
use Rattle.std.specs.Prelude.{All}
use Rattle.js_model.specs.declared.stream.Stream.{Stream}
use Rattle.js_model.specs.Counts.{consumer_info, pending_count}
use Rattle.followed_stream.specs.Followers.{Following}
use Rattle.stream_state.proofs.listing.infos.Given as goal

-- the informations so far
abbrev pub invariant-loop-follower : goal.invariant-loop-follower
invariant-loop-follower l =
    (s : Stream) → s.config.name ≡ l.stream → All (λ (f : Following). f.undelivered ≡ pending_count s f.consumer) l.followers
    → l.infos ≡ map (λ (f : Following). consumer_info s f.consumer) (take l.follower-index l.followers)
