use Rattle.std.proofs.Common.{◌≡◌, map, replicate}
use Rattle.js_model.specs.Catalog.{new_place}
use Rattle.catalog.specs.Entries.{place_of}
use Rattle.catalog.proofs.catalog.vacant_entries.Given as goal

-- so many places were added
abbrev pub invariant-loop : goal.invariant-loop
invariant-loop l = map place_of l.entries.items ≡ replicate l.counter new_place
