-- A call that the catalog refused, or for which it found no memory, and a stream that was not made, as their own definitions have them.
use Rattle.std.proofs.Common.{ℕ, Bool, List, [], Option, None, Result, Ok, Err, refl}
use Rattle.js_base.specs.Bytes.{Bytes}
use Rattle.js_model.specs.declared.catalog_fault.CatalogFault.{CatalogFault}
use Rattle.js_model.specs.declared.catalog_fault.CatalogFault.TheVariants.{Refused, NoMemory}
use Rattle.js_model.specs.declared.desk.PlaceAt.{PlaceAt}
use Rattle.js_model.specs.declared.stream_config.StreamConfig.{StreamConfig}
use Rattle.js_model.specs.Cataloging.{add_told, change_told}
use Rattle.api_calls.specs.declared.call.ApiCall.TheVariants as calls
use Rattle.api_calls.specs.Names.{name_of}
use Rattle.js_api.specs.declared.fault.DeskFault.{DeskFault}
use Rattle.js_api.specs.Entries.{DeskEntry}
use Rattle.js_api.specs.declared.outcome.Became.{Became}
use Rattle.js_api.specs.declared.outcome.Became.TheVariants.{Made, Unsaid, Ticked, Nothing, Broke, Stopped, Gone}
use Rattle.js_api.specs.Making.{GoesOnTaken, IsMaking}
use Rattle.js_api.specs.OneStream.{GoesOnAdded, GoesOnChanged}
use Rattle.desk_answers.specs.Became.{IsExplained}
use Rattle.desk_ground.specs.Outcomes.{IsThere}
use Rattle.desk_streams.specs.Refusing.{IsRefused, refused_by, untaken}

pub refused_added : (config : StreamConfig) (to : Option Bytes) (now : ℕ) (fault : CatalogFault) (result : Result Bool DeskFault) (entries : List DeskEntry) → IsRefused (name_of calls.StreamCreate) to fault result entries
    → GoesOnAdded config to now (add_told (Err fault)) result entries
refused_added config to now (Refused e) result entries h = h
refused_added config to now NoMemory result entries h = h

pub refused_changed : (at : PlaceAt) (config : StreamConfig) (to : Option Bytes) (now : ℕ) (fault : CatalogFault) (result : Result Bool DeskFault) (entries : List DeskEntry) → IsRefused (name_of calls.StreamUpdate) to fault result entries
    → GoesOnChanged at config to now (change_told (Err fault)) result entries
refused_changed at config to now (Refused e) result entries h = h
refused_changed at config to now NoMemory result entries h = h

pub untaken_so : (config : StreamConfig) (now : ℕ) (fault : CatalogFault) → GoesOnTaken config now (add_told (Err fault)) (untaken fault) []
untaken_so config now (Refused e) = record { result_is = refl; entries_are = refl }
untaken_so config now NoMemory = (refl, refl)

pub making_so : (became : Became) → IsExplained None became → IsThere became → IsMaking became (Ok (refused_by became)) []
making_so (Made reply) explained there = record { result_is = refl; entries_are = refl }
making_so (Unsaid refused) explained there = absurd explained
making_so Ticked explained there = absurd explained
making_so Nothing explained there = absurd explained
making_so (Broke stream) explained there = record { result_is = refl; entries_are = refl }
making_so (Stopped stream) explained there = record { result_is = refl; entries_are = refl }
making_so Gone explained there = absurd there
