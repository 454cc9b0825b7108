use Rattle.std.proofs.Common.{◌∙◌, ℕ, List, Option, length, map, refl, ap, sym, arith}
use Rattle.std.specs.List.{list_any}
use Rattle.js_model.specs.declared.desk.PlaceAt.{PlaceAt}
use Rattle.js_model.specs.Catalog.{At, telling, catalog_call, first_place, place_for}
use Rattle.catalog.specs.declared.entry.Entry.{Entry}
use Rattle.catalog.specs.Numbers.{is_of}
use Rattle.catalog.specs.Entries.{place_of}
use Rattle.catalog.proofs.Finding.{found_by_numbers}
use Rattle.catalog.proofs.catalog.Catalog.find.Goals as goal

pub first_place-requires : goal.first_place-requires
first_place-requires c = record { few = omega (arith, ap length c.as_slice-entries.ensures.value, c.self.invariant.few) }

pub first_place-requires-in-Err : goal.first_place-requires-in-Err
first_place-requires-in-Err c = record { few = omega (arith, ap length c.as_slice-entries.ensures.value, c.self.invariant.few) }

pub returns-in-Ok : goal.returns-in-Ok
unfolding catalog_call
returns-in-Ok c =
    let found = c.first_place.ensures.value
    ∙ ap (λ (es : List Entry). first_place (λ n p. list_any (is_of n) c.as_slice.result.now) 0 (map place_of es)) c.as_slice-entries.ensures.value
    ∙ ap (λ (ids : List ℕ). first_place (λ n p. list_any (is_of n) ids) 0 (map place_of c.self.inside.entries.items)) (c.as_slice.ensures.value ∙ c.in-Ok.ensures.ids)
    ∙ found_by_numbers c.self.inside.listing c.self.inside.entries.items c.args.subject.now c.self.invariant.lists ∙ ap (place_for c.args.subject.now) c.self.view_is in
    record { found = ap (λ (found : Option PlaceAt). telling (At found) c.args.self.now) (sym found) }

pub returns-in-Err : goal.returns-in-Err
unfolding catalog_call
returns-in-Err c = record { found = rw (c.first_place-in-Err.ensures.value, c.as_slice-entries.ensures.value, c.self.view_is) refl }
