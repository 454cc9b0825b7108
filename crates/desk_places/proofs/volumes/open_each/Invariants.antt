use Rattle.std.proofs.Common.{◌≡◌, ◌+◌, ◌≤◌, ◌++◌, List, vec_len}
use Rattle.std.specs.List.{AllZip}
use Rattle.std.specs.Prelude.{reverse, vec_capacity}
use Rattle.desk_places.specs.Opening.{OpensOn}
use Rattle.desk_places.proofs.volumes.open_each.Given as goal

-- the volumes that have their places, and those that are left; room on both sides
abbrev pub invariant-loop-alloc : goal.invariant-loop-alloc
invariant-loop-alloc g l =
    let P = g.P.Place in
    record {
      opened : (came : List _) × (reverse l.fn.vols.items ≡ came ++ reverse l.vols.items)
          × AllZip (OpensOn P.seen P.vol P.holds P.reads P.left P.clock P.faults P.room_causes P.base P.opens P.refuses P.keeps_vol) came l.places.items;
      ahead : vec_len l.places + vec_len l.vols ≤ vec_capacity l.places;
      back : vec_len l.vols + vec_len l.places ≤ vec_capacity l.vols;
      few : vec_len l.vols + vec_len l.places ≤ vec_len l.fn.vols;
    }

abbrev pub decreases-loop-alloc : goal.decreases-loop-alloc
decreases-loop-alloc g l = vec_len l.vols
