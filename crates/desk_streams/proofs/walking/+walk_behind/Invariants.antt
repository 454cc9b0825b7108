use Rattle.std.proofs.Common.{◌-◌}
use Rattle.desk_streams.specs.Walking.{most_to}
use Rattle.desk_streams.proofs.walking.+walk_behind.Given as goal

-- how many places are after the last one
abbrev pub decreases-walk_behind : goal.decreases-walk_behind
decreases-walk_behind g l = 32 - most_to l.last
