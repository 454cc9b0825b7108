-- The calls of a catalog that a turn makes, and their answers, as its histories have them.
use Rattle.js_model.specs.Catalog as catalog
use Rattle.js_model.specs.Catalog.{CatCall, CatTold}
use Rattle.js_model.specs.Cataloging.{add_told, change_told}
use Rattle.hub_catalog.specs.declared.look.Look.{Look}
use Rattle.hub_catalog.specs.declared.look.Look.TheVariants as looks
use Rattle.hub_catalog.specs.declared.made.Call.{Call}
use Rattle.hub_catalog.specs.declared.made.Call.TheVariants as calls
use Rattle.hub_catalog.specs.declared.made.Told.{Told}
use Rattle.hub_catalog.specs.declared.made.Told.TheVariants as tolds

abbrev pub look_call : Look → CatCall
look_call (looks.Find subject) = catalog.Find subject.now
look_call (looks.ByName name) = catalog.ByName name.now
look_call (looks.NextUsed after) = catalog.NextUsed after

abbrev pub call_of : Call → CatCall
call_of (calls.Look look) = look_call look
call_of (calls.Add name subjects) = catalog.Add name.now subjects.now
call_of (calls.Change place subjects) = catalog.Change place subjects.now
call_of (calls.Keep place new) = catalog.Keep place new
call_of (calls.Remove place dropped) = catalog.Remove place dropped
call_of (calls.Stop place) = catalog.Stop place

abbrev pub told_of : Told → CatTold
told_of tolds.Done = catalog.Done
told_of (tolds.At found) = catalog.At found
told_of (tolds.Added answer) = add_told answer.now
told_of (tolds.Changed answer) = change_told answer.now
