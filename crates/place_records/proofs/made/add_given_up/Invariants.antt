use Rattle.std.proofs.Common.{◌≡◌, ◌+◌, ◌≤◌, ◌++◌, map, length, vec_len}
use Rattle.std.specs.Vec.{vec_capacity}
use Rattle.std.specs.Vec.Iter.{into_iter_items}
use Rattle.place_records.specs.Records.{gives_up}
use Rattle.place_records.proofs.made.add_given_up.Given as goal

-- those that were added, and those to come
abbrev pub invariant-loop-name : goal.invariant-loop-name
invariant-loop-name l = record {
  added : l.effects.items ++ map (gives_up l.moment) (into_iter_items l.name-iterator) ≡ l.initial.effects.items ++ map (gives_up l.moment) l.fn.names.items;
  room : vec_len l.effects + length (into_iter_items l.name-iterator) ≤ vec_capacity l.effects;
  kept : vec_capacity l.effects ≡ vec_capacity l.initial.effects;
}
