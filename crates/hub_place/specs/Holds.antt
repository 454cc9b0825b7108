-- How a hold leads a caller's seat at a place, this server's own.
use Rattle.std.specs.Prelude.{◌≡◌, ◌⊎◌, ◌<◌, ◌≤◌, ℕ, false, List, [], ◌∷◌, map, Some}
use Rattle.atomic_table.specs.Seated.{TableId}
use Rattle.js_model.specs.declared.stream.State.{State}
use Rattle.js_model.specs.declared.event.What.{What}
use Rattle.js_model.specs.declared.desk.PlaceAt.{PlaceAt}
use Rattle.js_api.specs.declared.fault.DeskFault.TheVariants.{Worn}
use Rattle.js_api.specs.declared.outcome.Became.TheVariants.{Nothing}
use Rattle.js_api.specs.declared.outcome.Outcome.{Outcome}
use Rattle.js_api.specs.Entries.{DeskEntry, Routed, Looked, Turned, Resumed, Held, Stirred, Halted, Missed, Spent}
use Rattle.js_api.specs.Leading.{Leads}
use Rattle.histories.specs.Entries.{Entry, AtPlace, Opening, OfPlace, OfRouter, OfCatalog}
use Rattle.turn_lock.specs.Ruled.{last_ticket}
use Rattle.turn_lock.specs.Seats.{SeatView}
use Rattle.hub_fronts.specs.Stepping.{HoldsThere, StirsThere, HaltsThere, MissesThere, Wears}
use Rattle.hub_fronts.specs.Turns.{HasSeen}
use Rattle.desk_hold.specs.Crashes.{made_by}
use Rattle.desk_hold.specs.OnePlace.{HoldsOn}
use Rattle.place_engine.specs.Stepping.{Image, Seen}
use Rattle.hub_place.specs.Ports.{IsRouted, IsWorn}

-- the port of a place with this opening state is a seat of that lock
abbrev pub SendsTo : Opening → TableId → Type 0
SendsTo (OfPlace state faults port) lock = port.lock ≡ lock
SendsTo OfRouter lock = ⊥
SendsTo (OfCatalog catalog) lock = ⊥

-- ---- one turn

-- one entry of a hold at this place
abbrev pub SeatStep : PlaceAt → SeatView → DeskEntry → SeatView → Type 0
SeatStep at old (Routed call told) new = ⊥
SeatStep at old (Looked joined call told) new = ⊥
SeatStep at old (Turned after found) new = ⊥
SeatStep at old (Resumed last) new = ⊥
SeatStep at old (Held hold) new = (hold.at ≡ at) × HoldsThere hold old new
SeatStep at old (Stirred there before after failed) new = (there ≡ at) × StirsThere before after failed old new
SeatStep at old (Halted there state) new = (there ≡ at) × HaltsThere state old new
SeatStep at old (Missed there kept) new = (there ≡ at) × MissesThere there kept old new
SeatStep at old (Spent number) new = ⊥

-- the seat drew a ticket and came in, and by these entries it went on from what it had seen then
pub record HoldsInTurn (at : PlaceAt) (old : SeatView) (entries : List DeskEntry) (new : SeatView) : Type 0 where
  pub inside : SeatView
  pub sees : HasSeen old inside
  pub ticket : old.drawn < inside.drawn
  pub low : inside.drawn ≤ last_ticket
  pub led : Leads (SeatStep at) inside entries new

-- or all tickets of the place are drawn
abbrev pub HoldsBySeat : PlaceAt → SeatView → List DeskEntry → SeatView → Type 0
HoldsBySeat at old entries new = HoldsInTurn at old entries new ⊎ ((entries ≡ Spent last_ticket ∷ []) × Wears old new)

-- what a hold comes to then: nothing, and the ticket that is never drawn
abbrev pub unmade : ℕ → Outcome
unmade ticket = record { became = Nothing; ready = false; fault = Some (Worn ticket) }

-- ---- what stands of a hold in the history of its place

-- these are the entries that a hold by the port made there, all by the seat of this number
pub record IsMadeBy (in_image : Image → State → Type 0) (outgrows : State → What → Type 0) (at : PlaceAt) (number : ℕ) (what : What) (now : ℕ) (outcome : Outcome) (old new : Seen) (port after : SeatView) (entries : List Entry) : Type 0 where
  pub hold : HoldsOn IsRouted IsWorn at in_image outgrows number what now outcome old new port after
  pub entries_are : entries ≡ map AtPlace (made_by hold.entries)
