-- The name of a place's stream after entries of its run, as what they send shows it.
use Rattle.std.specs.Prelude.{List, [], ◌∷◌}
use Rattle.js_base.specs.Bytes.{Bytes}
use Rattle.js_model.specs.declared.entry.PlaceEntry.{PlaceEntry}
use Rattle.js_api.specs.Outputs.{name_behind}

abbrev pub named_behind : Bytes → List PlaceEntry → Bytes
named_behind stream [] = stream
named_behind stream (entry ∷ more) = named_behind (name_behind stream entry) more
