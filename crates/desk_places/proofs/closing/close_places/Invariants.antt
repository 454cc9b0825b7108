use Rattle.std.proofs.Common.{◌+◌, ◌≤◌, vec_len}
use Rattle.std.specs.Prelude.{vec_capacity}
use Rattle.desk_places.specs.Closing.{EndsAt}
use Rattle.desk_places.proofs.Failures.{AreClosedSo}
use Rattle.desk_places.proofs.closing.close_places.Given as goal

-- the places that were closed and how they ended, and those to come
abbrev pub invariant-loop-places : goal.invariant-loop-places
invariant-loop-places g l =
    let P = g.P.Place in
    record {
      closed : AreClosedSo (EndsAt P.seen P.vol P.holds P.reads P.left P.clock P.base P.keeps_vol) l.fn.places.items l.places.items l.vols.items l.failed;
      room : vec_len l.vols + vec_len l.places ≤ vec_capacity l.vols;
      few : vec_len l.vols + vec_len l.places ≤ 32;
    }

abbrev pub decreases-loop-places : goal.decreases-loop-places
decreases-loop-places g l = vec_len l.places
