use Rattle.std.proofs.Common.{◌≡◌, ◌≤◌, ◌++◌, map, drop}
use Rattle.std.specs.Prelude.{vec_len}
use Rattle.std.specs.Vec.{vec_capacity}
use Rattle.catalog.specs.Entries.{place_of}
use Rattle.catalog.specs.Used.{used_from}
use Rattle.catalog.proofs.used.list_used.Given as goal

-- the used ones of those so far are listed
abbrev pub invariant-loop-number : goal.invariant-loop-number
invariant-loop-number l = record {
  listed : l.places.items ++ used_from l.number (map place_of (drop l.number l.entries)) ≡ used_from 0 (map place_of l.entries);
  few : vec_len l.places ≤ l.number;
  capacity : vec_capacity l.places ≡ vec_capacity l.initial.places;
}
