use Rattle.std.proofs.Common.{◌≡◌, ◌-◌, length, map, take}
use Rattle.place_engine.specs.Pushes.{push_of, pushes_in}
use Rattle.desk_hold.proofs.hearing.pushes_of.Given as goal

-- those before this place
abbrev pub invariant-loop-push : goal.invariant-loop-push
invariant-loop-push g l = l.pushes.items ≡ map push_of (take l.at (pushes_in (g.P.Place.seen l.fn.place).place.state))

abbrev pub decreases-loop-push : goal.decreases-loop-push
decreases-loop-push g l = length (pushes_in (g.P.Place.seen l.fn.place).place.state) - l.at
