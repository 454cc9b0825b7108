use Rattle.std.proofs.Common.{◌≡◌, take}
use Rattle.js_api.specs.Holding.{listening_of}
use Rattle.desk_hold.specs.Ports.{readings_of}
use Rattle.desk_hold.proofs.hearing.listening.Given as goal

-- the names so far
abbrev pub invariant-loop-at : goal.invariant-loop-at
invariant-loop-at l = l.listening ≡ listening_of (readings_of (take l.at l.pushes) (take l.at l.told))
