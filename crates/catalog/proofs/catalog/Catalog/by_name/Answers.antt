use Rattle.std.proofs.Common.{Option, ap, sym}
use Rattle.js_model.specs.declared.desk.PlaceAt.{PlaceAt}
use Rattle.js_model.specs.Catalog.{At, telling, catalog_call}
use Rattle.catalog.proofs.catalog.Catalog.by_name.Goals as goal

pub returns : goal.returns
unfolding catalog_call
returns c = record { found = ap (λ (found : Option PlaceAt). telling (At found) c.args.self.now) (sym c.named.ensures.value) }
