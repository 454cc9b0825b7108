-- What a worker does with its seats: it serves links, one after the other, and between them lets time pass.
use Rattle.std.specs.Prelude.{◌≡◌, ◌||◌, ℕ, Bool, false, true, List, Result}
use Rattle.std.specs.List.{AllByRecursion, flat_map, list_any}
use Rattle.js_base.specs.Bytes.{Bytes}
use Rattle.link_edge.specs.Reports.{Report}
use Rattle.js_api.specs.Answering.{Tick, done}
use Rattle.js_api.specs.Calls.{Does}
use Rattle.js_api.specs.Clients.{Client}
use Rattle.js_api.specs.Entries.{DeskEntry}
use Rattle.js_api.specs.declared.fault.DeskFault.{DeskFault}
use Rattle.session.specs.Talk.{Journal, entries_of}
use Rattle.session.specs.declared.ending.Limits.{Limits}
use Rattle.session.specs.declared.ending.Ended.{Ended}
use Rattle.session.specs.declared.ending.Ended.TheVariants as ends
use Rattle.session.specs.declared.ending.Refusal.{Refusal}
use Rattle.session.specs.declared.ending.Refusal.TheVariants as refusals
use Rattle.hub_fronts.specs.Fronts.{SharedScene}
use Rattle.hub_fronts.specs.Making.{SharedMade}
use Rattle.workers.specs.Sessions.{IsSession}

-- a session over a link that then tells this, or a tick at a moment
pub data Deed : Type 0 where
  Served : Report → Journal → Bytes → Ended → Deed
  Ticked : ℕ → Result (Unit {0}) DeskFault → List DeskEntry → Deed

abbrev pub deed_entries : Deed → List DeskEntry
deed_entries (Served report journal bytes ended) = entries_of journal
deed_entries (Ticked now answer entries) = entries

abbrev pub IsDeed : Limits → Deed → Type 0
IsDeed limits (Served report journal bytes ended) = IsSession limits report journal bytes ended
IsDeed limits (Ticked now answer entries) = (client : Client) × (client.is_open ≡ false) × Does client (Tick now) (done answer) entries

-- these are its deeds, and their entries led what it knows from the one to the other
pub record Works (limits : Limits) (old : SharedScene) (deeds : List Deed) (new : SharedScene) : Type 0 where
  pub are : AllByRecursion (IsDeed limits) deeds
  pub led : SharedMade old (flat_map deed_entries deeds) new

-- ---- sessions that ended for want of numbers

abbrev pub refused_worn : Refusal → Bool
refused_worn (refusals.Frame fault) = false
refused_worn refusals.BadConnect = false
refused_worn refusals.BadHeaders = false
refused_worn refusals.NumbersUsed = true

abbrev pub ended_worn : Ended → Bool
ended_worn ends.Closed = false
ended_worn (ends.Refused refusal) = refused_worn refusal
ended_worn (ends.Slow size) = false
ended_worn ends.Stale = false
ended_worn ends.LinkFault = false
ended_worn ends.InputLimit = false
ended_worn ends.NoMemory = false

abbrev pub is_worn_by : Deed → Bool
is_worn_by (Served report journal bytes ended) = ended_worn ended
is_worn_by (Ticked now answer entries) = false

abbrev pub are_worn : List Deed → Bool
are_worn = list_any is_worn_by
