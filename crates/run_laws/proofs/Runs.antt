-- The entries of a run lead its desk from the opening on.
use Rattle.std.proofs.Common.{ℕ, List, None, Option, Ok}
use Rattle.js_model.specs.PlaceStates.{PlaceIn}
use Rattle.js_api.specs.Leading.{Leads, leads_more}
use Rattle.js_api.specs.Worlds.{Scene, SoloStep, opening}
use Rattle.server.specs.declared.words.NamedStream.{NamedStream}
use Rattle.server.specs.Attending.{prepared_entries, session_entries, run_entries}
use Rattle.server.specs.Outside.{Outside}
use Rattle.server.specs.Running.{Attends, Unmade, Awaited}
use Rattle.server.proofs.Led.{prepared_led, session_led}

pub run_led : (opened : List PlaceIn) (stream : Option NamedStream) (after : Scene) (status : ℕ) (old new : Outside)
    → (attends : Attends opened stream after status old new) → Leads SoloStep (opening opened) (run_entries opened stream after status old new attends) after
run_led opened stream after status old new (Unmade u) = prepared_led opened stream u.result old.clock new.clock after u.prepared
run_led opened stream after status old new (Awaited a) =
    leads_more SoloStep (opening opened) a.scene after
    (prepared_entries opened stream (Ok None) old.clock a.rest a.scene a.prepared)
    (session_entries a.scene after status old.door new.door a.rest new.clock a.waits)
    (prepared_led opened stream (Ok None) old.clock a.rest a.scene a.prepared)
    (session_led a.scene after status old.door new.door a.rest new.clock a.waits)
