use Rattle.std.proofs.Common.{◌≡◌, true}
use Rattle.session.specs.Gathering.{AreCollecting}
use Rattle.session.specs.Leading.{Adds}
use Rattle.session.proofs.collecting.collect_all.Given as goal

-- collects that each left more were made, and their bytes were added
abbrev pub invariant-loop-stop : goal.invariant-loop-stop
invariant-loop-stop g l =
    let desk = g.D.Desk in
    record {
      collecting : Adds desk.made l.fn.desk l.desk l.fn.into.items l.into.items (AreCollecting (desk.client l.fn.desk));
      client : desk.client l.desk ≡ desk.client l.fn.desk;
      is_open : (desk.client l.desk).is_open ≡ true;
    }

abbrev pub decreases-loop-stop : goal.decreases-loop-stop
decreases-loop-stop g l = g.D.Desk.left l.desk
