use Rattle.std.proofs.Common.{map, ◌≤◌, subst, sym, ℕ}
use Rattle.std.proofs.lemmas.List.{length-map}
use Rattle.desk_places.specs.Places.{places_by}
use Rattle.js_desk.proofs.Opened.{opened_grounded, opened_scene}
use Rattle.js_desk.proofs.solo_ground.SoloGround.of.Goals as goal

pub returns-clause-scene : goal.returns-clause-scene
returns-clause-scene g c =
    rw c.new.ensures.empty (opened_scene (places_by g.P.Place.seen c.args.places.items) (map g.P.Place.vol c.args.places.items) c.args.catalog c.requires.catalog)

pub invariant_of-result : goal.invariant_of-result
invariant_of-result g c =
    opened_grounded (places_by g.P.Place.seen c.args.places.items) c.args.catalog c.requires.catalog
    (subst (λ (n : ℕ). n ≤ 32) (sym (length-map c.args.places.items (λ p. (g.P.Place.seen p).place))) c.requires.few)
