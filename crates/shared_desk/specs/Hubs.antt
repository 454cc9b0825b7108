-- What contracts see of a hub, and what holds of it, this server's own.
use Rattle.std.specs.Prelude.{◌≡◌, ◌≤◌, ◌<◌, ℕ, List, [], length}
use Rattle.std.specs.List.{AllByRecursion}
use Rattle.histories.specs.Entries.{OfRouter}
use Rattle.turn_lock.specs.Seats.{LockView}
use Rattle.hub_catalog.specs.Kinds.{places_of}
use Rattle.hub_place.specs.Holds.{SendsTo}
use Rattle.shared_desk.specs.declared.finding.Tally.{Tally}
use Rattle.shared_desk.specs.Finding.{messages_found, streams_found}

-- its locks: round the router, round the catalog and round each place
pub record HubView : Type 0 where
  pub router : LockView
  pub catalog : LockView
  pub places : List LockView

-- there is a caller, there are at most 32 places, of each of which the catalog has an entry, and each sends by a seat of the router
pub record IsHub (hub : HubView) : Type 0 where
  pub some : 0 < hub.catalog.seats
  pub few : length hub.places ≤ 32
  pub router : hub.router.opening ≡ OfRouter
  pub catalog : places_of hub.catalog.opening ≡ length hub.places
  pub ports : AllByRecursion (λ (place : LockView). SendsTo place.opening hub.router.lock) hub.places

-- and what it has beside its locks: room for the places and for their volumes, all of which it gives back at the end, and the numbers of streams and of
-- messages as it was opened
pub record IsEquipped {P V : Type 0} (hub : HubView) (row : List P) (row_room : ℕ) (vols : List V) (vols_room : ℕ) (opened : Tally) : Type 0 where
  pub is_hub : IsHub hub
  pub none : row ≡ []
  pub row_fits : length hub.places ≤ row_room
  pub no_vols : vols ≡ []
  pub vols_fit : length hub.places ≤ vols_room
  pub streams : opened.streams ≡ streams_found hub.places
  pub messages : opened.messages ≡ messages_found hub.places
