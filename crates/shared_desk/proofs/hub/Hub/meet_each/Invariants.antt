use Rattle.std.proofs.Common.{◌≡◌, ◌≤◌, length}
use Rattle.turn_lock.specs.Calls.{HasMet}
use Rattle.shared_desk.proofs.Seats.{IsThird}
use Rattle.shared_desk.proofs.hub.Hub.meet_each.Given as goal

-- the seats of the last places have met, and the others are as they were
abbrev pub invariant-loop-at : goal.invariant-loop-at
invariant-loop-at g l =
    record {
      within : l.at ≤ length l.self.places;
      same : l.others.items ≡ l.fn.others.items;
      third : IsThird HasMet l.self.places l.fn.ones.items l.fn.others.items l.ones.items l.at;
    }
