use Rattle.std.proofs.Common.{◌≡◌, ◌++◌, map, take}
use Rattle.std.specs.Vec.{vec_capacity}
use Rattle.effects.specs.TimeEffects.{remove_of}
use Rattle.place_records.proofs.made.add_removals.Given as goal

-- those of the ranges so far
abbrev pub invariant-loop-range : goal.invariant-loop-range
invariant-loop-range l = record {
  added : l.effects.items ≡ l.initial.effects.items ++ map remove_of (take l.range-index l.ranges);
  room : vec_capacity l.effects ≡ vec_capacity l.initial.effects;
}
