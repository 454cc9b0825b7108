-- What stands in the places of a hub as they are opened, this server's own: how many streams, and how many messages in them.
use Rattle.std.specs.Prelude.{ℕ, List, sum_by}
use Rattle.js_model.specs.declared.stream.State.{State}
use Rattle.js_model.specs.declared.stream.State.TheVariants.{Vacant, Live}
use Rattle.place_engine.specs.Places.{messages_in}
use Rattle.place_engine.specs.Stepping.{Seen}
use Rattle.histories.specs.Entries.{Opening, OfPlace, OfRouter, OfCatalog}
use Rattle.turn_lock.specs.Seats.{LockView}

-- ---- in places

-- one stream, or none
abbrev pub streams_in : State → ℕ
streams_in (Vacant last) = 0
streams_in (Live stream) = 1

abbrev pub streams_of : {P : Type 0} → (P → Seen) → List P → ℕ
streams_of seen row = sum_by (λ place. streams_in (seen place).place.state) row

abbrev pub messages_of : {P : Type 0} → (P → Seen) → List P → ℕ
messages_of seen row = sum_by (λ place. messages_in (seen place).place.state) row

-- ---- in the histories of places

-- in the state in which a history opens; no other history is one of a place
abbrev pub streams_at : Opening → ℕ
streams_at (OfPlace state faults port) = streams_in state
streams_at OfRouter = 0
streams_at (OfCatalog catalog) = 0

abbrev pub messages_at : Opening → ℕ
messages_at (OfPlace state faults port) = messages_in state
messages_at OfRouter = 0
messages_at (OfCatalog catalog) = 0

-- as all of them open
abbrev pub streams_found : List LockView → ℕ
streams_found places = sum_by (λ (place : LockView). streams_at place.opening) places

abbrev pub messages_found : List LockView → ℕ
messages_found places = sum_by (λ (place : LockView). messages_at place.opening) places
