use Rattle.std.proofs.Common.{◌≡◌, map, take}
use Rattle.js_model.specs.Catalog.{kept_place}
use Rattle.catalog.proofs.catalog.Catalog.of.Given as goal

-- the places stand for what those so far kept
abbrev pub invariant-loop-place : goal.invariant-loop-place
invariant-loop-place l = l.catalog ≡ map kept_place (take l.place-index l.kept)
