use Rattle.std.proofs.Common.{◌≡◌, map, drop}
use Rattle.js_model.specs.Catalog.{first_place}
use Rattle.catalog.specs.Entries.{place_of, accepts}
use Rattle.catalog.proofs.catalog.first_place.Given as goal

-- the place is among those that are left
abbrev pub invariant-loop-number : goal.invariant-loop-number
invariant-loop-number l = first_place (accepts l.sought) l.number (map place_of (drop l.number l.entries)) ≡ first_place (accepts l.sought) 0 (map place_of l.entries)
