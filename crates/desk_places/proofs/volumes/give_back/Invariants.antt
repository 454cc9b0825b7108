use Rattle.std.proofs.Common.{◌≡◌, ◌+◌, ◌≤◌, ◌++◌, map, vec_len}
use Rattle.std.specs.Prelude.{reverse, vec_capacity}
use Rattle.desk_places.proofs.volumes.give_back.Given as goal

-- those that came back, and those to come, and room for these
abbrev pub invariant-loop-places : goal.invariant-loop-places
invariant-loop-places g l = record {
  back : l.vols.items ++ reverse (map g.P.Place.vol l.places.items) ≡ l.fn.vols.items ++ reverse (map g.P.Place.vol l.initial.places.items);
  room : vec_len l.vols + vec_len l.places ≤ vec_capacity l.vols;
}

abbrev pub decreases-loop-places : goal.decreases-loop-places
decreases-loop-places g l = vec_len l.places
