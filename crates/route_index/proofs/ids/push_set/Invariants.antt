use Rattle.std.proofs.Common.{◌≡◌, ◌++◌, map}
use Rattle.route_index.proofs.ids.push_set.Given as goal

-- the numbers so far were added
abbrev pub invariant-loop-id : goal.invariant-loop-id
invariant-loop-id l = l.found.items ≡ l.initial.found.items ++ map (λ id. id.now) l.yielded
