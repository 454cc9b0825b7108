use Rattle.std.proofs.Common.{◌≡◌, map, take}
use Rattle.std.specs.Prelude.{All}
use Rattle.followed_stream.specs.Followers.{IsCounted}
use Rattle.followed_stream.proofs.restoring.followers_of.Given as goal

-- the consumers so far, each counted
abbrev pub invariant-loop-consumer : goal.invariant-loop-consumer
invariant-loop-consumer l = (map (λ f. f.consumer) l.followers.items ≡ take l.consumer-index l.kept) × All (IsCounted l.stored.messages) l.followers.items
