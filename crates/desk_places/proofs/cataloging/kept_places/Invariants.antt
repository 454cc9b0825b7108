use Rattle.std.proofs.Common.{◌≡◌, map, take}
use Rattle.js_api.specs.Worlds.{kept_in}
use Rattle.desk_places.specs.Places.{places_by}
use Rattle.desk_places.proofs.cataloging.kept_places.Given as goal

-- those of the places so far
abbrev pub invariant-loop-place : goal.invariant-loop-place
invariant-loop-place g l = l.kept.items ≡ map kept_in (places_by g.P.Place.seen (take l.place-index l.places))
