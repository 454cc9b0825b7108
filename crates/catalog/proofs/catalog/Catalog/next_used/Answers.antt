use Rattle.std.proofs.Common.{◌∙◌, Option, ap, sym}
use Rattle.js_model.specs.declared.desk.PlaceAt.{PlaceAt}
use Rattle.js_model.specs.Catalog.{At, telling, catalog_call}
use Rattle.catalog.specs.Used.{used_places, next_of}
use Rattle.catalog.proofs.Using.{next_told}
use Rattle.catalog.proofs.catalog.Catalog.next_used.Goals as goal

pub returns : goal.returns
unfolding catalog_call
returns c =
    let found = c.next.ensures.value ∙ ap (next_of c.args.after) (c.self.invariant.used ∙ ap used_places c.self.view_is) ∙ next_told c.args.after c.args.self.now in
    record { found = ap (λ (found : Option PlaceAt). telling (At found) c.args.self.now) (sym found) }
