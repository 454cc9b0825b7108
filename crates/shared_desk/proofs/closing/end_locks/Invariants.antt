use Rattle.std.proofs.Common.{◌≡◌, ◌+◌, ◌≤◌, vec_len}
use Rattle.std.specs.Prelude.{vec_capacity}
use Rattle.std.specs.List.{AllZip}
use Rattle.shared_desk.specs.Seats.{AreThere, seats_in}
use Rattle.shared_desk.proofs.Ending.{Ended, MayEnd}
use Rattle.shared_desk.proofs.closing.end_locks.Given as goal

-- the locks behind the others have ended, and the others may
abbrev pub invariant-loop-locks : goal.invariant-loop-locks
invariant-loop-locks g l =
    let P = g.P.Place in
    record {
      ended : Ended P.seen P.vol P.holds P.left P.clock P.base P.keeps_vol l.fn.locks.items l.locks.items (seats_in l.fn.seats.items) (seats_in l.seats.items) l.row.items l.fn.seat l.all;
      there : AreThere l.seats.items;
      may : AllZip (MayEnd l.fn.router.lock) l.locks.items (seats_in l.seats.items);
      own : l.all.lock ≡ l.fn.router.lock;
      room : vec_len l.row + vec_len l.locks ≤ vec_capacity l.row;
    }

abbrev pub decreases-loop-locks : goal.decreases-loop-locks
decreases-loop-locks g l = vec_len l.locks
