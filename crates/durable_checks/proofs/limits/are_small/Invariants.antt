use Rattle.std.proofs.Common.{◌≡◌, nat_le, drop}
use Rattle.std.specs.Prelude.{sum_by}
use Rattle.js_model.specs.Streams.{size}
use Rattle.durable_checks.proofs.limits.are_small.Given as goal

-- the rest of them decides, by what is left of the limit
abbrev pub invariant-loop-message : goal.invariant-loop-message
invariant-loop-message l = nat_le (sum_by size l.messages) l.limit ≡ nat_le (sum_by size (drop l.message-index l.messages)) l.left
