-- What holds of the catalogs of a hub, by the definitions alone.
use Rattle.std.specs.Prelude.{◌≡◌, List, [], length}
use Rattle.js_model.specs.declared.kept_place.KeptPlace.{KeptPlace}
use Rattle.js_model.specs.Catalog.{Catalog, CatEntry, CatRun, catalog_of}
use Rattle.histories.specs.Entries.{OfCatalog}
use Rattle.hub_catalog.specs.Kinds.{CatalogIs}

-- no call adds a place or takes one away
abbrev pub LawPlaces : Type 0
LawPlaces = (old new : Catalog) (entries : List CatEntry) → CatRun old entries new → length new ≡ length old

-- a catalog that begins with what the places kept may be shared
abbrev pub LawOpening : Type 0
LawOpening = (kept : List KeptPlace) → CatalogIs (OfCatalog (catalog_of kept)) [] (catalog_of kept)
