-- Why no catalog can begin with what places kept.
use Rattle.std.specs.Prelude.{List}
use Rattle.js_model.specs.declared.kept_place.KeptPlace.{KeptPlace}
use Rattle.catalog.specs.Conflicts.{IsFirstConflict}
use Rattle.desk_places.specs.declared.cataloging.Uncataloged.{Uncataloged}
use Rattle.desk_places.specs.declared.cataloging.Uncataloged.TheVariants.{Conflict, NoMemory}

-- two of their streams share a name or have subjects that meet, and these are the first two; or memory ran out
abbrev pub IsUncataloged : List KeptPlace → Uncataloged → Type 0
IsUncataloged kept (Conflict first second) = IsFirstConflict kept first second
IsUncataloged kept NoMemory = Unit {0}
