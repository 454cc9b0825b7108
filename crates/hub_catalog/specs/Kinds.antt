-- When a catalog stands for a history that many share, and how many places it has, this server's own.
use Rattle.std.specs.Prelude.{ℕ, List, length}
use Rattle.js_model.specs.Catalog.{Catalog}
use Rattle.histories.specs.Entries.{Entry, Opening, OfPlace, OfRouter, OfCatalog}
use Rattle.histories.specs.Lawful.{CatalogStands}
use Rattle.hub_catalog.specs.Lists.{AreSingle}

-- the entries lead from the opening state to this catalog, and no change of a stream is left open in it
pub record CatalogIs (opening : Opening) (entries : List Entry) (catalog : Catalog) : Type 0 where
  pub stands : CatalogStands opening entries catalog
  pub single : AreSingle catalog

-- so many places there are at the opening, and so always
abbrev pub places_of : Opening → ℕ
places_of (OfPlace state faults port) = 0
places_of OfRouter = 0
places_of (OfCatalog catalog) = length catalog
