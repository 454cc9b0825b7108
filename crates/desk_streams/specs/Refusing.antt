-- Calls that the catalog refused, or for which it found no memory, and streams that were not made.
use Rattle.std.specs.Prelude.{Bool, List, Option, None, Some, Result, Ok, Err}
use Rattle.js_base.specs.Bytes.{Bytes}
use Rattle.js_base.specs.declared.out.ApiError.{ApiError}
use Rattle.js_model.specs.declared.catalog_fault.CatalogFault.{CatalogFault}
use Rattle.js_model.specs.declared.catalog_fault.CatalogFault.TheVariants.{Refused, NoMemory}
use Rattle.js_model.specs.Refusals.{store_fault, stream_stopped}
use Rattle.js_api.specs.declared.fault.DeskFault.{DeskFault}
use Rattle.js_api.specs.declared.fault.DeskFault.TheVariants as faults
use Rattle.js_api.specs.declared.outcome.Became.{Became}
use Rattle.js_api.specs.declared.outcome.Became.TheVariants.{Made, Unsaid, Ticked, Nothing, Broke, Stopped, Gone}
use Rattle.js_api.specs.Entries.{DeskEntry}
use Rattle.js_api.specs.Making.{refusal_in}
use Rattle.js_api.specs.OneStream.{Answers, IsShort, refusal}

-- the call of this name is answered so
abbrev pub IsRefused : Bytes → Option Bytes → CatalogFault → Result Bool DeskFault → List DeskEntry → Type 0
IsRefused name to (Refused e) result entries = Answers (refusal name to e) result entries
IsRefused name to NoMemory result entries = IsShort result entries

-- ---- why the stream that the command line names was not made

-- by the catalog
abbrev pub untaken : CatalogFault → Result (Option ApiError) DeskFault
untaken (Refused e) = Ok (Some e)
untaken NoMemory = Err faults.NoMemory

-- by what became of the hold
abbrev pub refused_by : Became → Option ApiError
refused_by (Made reply) = refusal_in reply
refused_by (Unsaid refused) = None
refused_by Ticked = None
refused_by Nothing = None
refused_by (Broke stream) = Some store_fault
refused_by (Stopped stream) = Some stream_stopped
refused_by Gone = None
