use Rattle.std.proofs.Common.{◌≡◌, ◌≤◌, ◌-◌, true}
use Rattle.session.specs.Leading.{Adds}
use Rattle.session.proofs.Gathered.{AreRounds}
use Rattle.session.proofs.gathering.gather.Given as goal

-- what waited was collected, so many rounds were made after each of which a consumer was ready, and their bytes were added
abbrev pub invariant-loop-rounds : goal.invariant-loop-rounds
invariant-loop-rounds g l =
    let desk = g.D.Desk in
    record {
      within : l.rounds ≤ 65536;
      gathering : Adds desk.made l.fn.desk l.desk l.fn.into.items l.into.items (AreRounds (desk.client l.fn.desk) l.now l.rounds);
      client : desk.client l.desk ≡ desk.client l.fn.desk;
      is_open : (desk.client l.desk).is_open ≡ true;
    }

abbrev pub decreases-loop-rounds : goal.decreases-loop-rounds
decreases-loop-rounds g l = 65536 - l.rounds
