-- The places that have a stream.
use Rattle.std.specs.Prelude.{ℕ, ◌+◌, nat_lt, List, [], ◌∷◌, find, if◌then◌else◌, Option}
use Rattle.std.specs.List.{slice_get}
use Rattle.js_model.specs.declared.desk.PlaceAt.{PlaceAt}
use Rattle.js_model.specs.Catalog.{Catalog, is_used, or_else}

-- the used places with the incarnation that each keeps, counted from n on
abbrev pub used_from : ℕ → Catalog → List PlaceAt
used_from n [] = []
used_from n (p ∷ ps) = if is_used p then record { place = n; incarnation = p.incarnation } ∷ used_from (n + 1) ps else used_from (n + 1) ps

abbrev pub used_places : Catalog → List PlaceAt
used_places c = used_from 0 c

-- the next one in cyclic order: the first one above, or else the first of all
abbrev pub next_of : ℕ → List PlaceAt → Option PlaceAt
next_of after places = or_else (find (λ at. nat_lt after at.place) places) (slice_get places 0)
