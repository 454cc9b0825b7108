-- The stages of a desk's call, one after the other. A stage gives something or ends the call by a fault, and makes entries.
use Rattle.std.specs.Prelude.{◌≡◌, ◌⊎◌, ℕ, false, List, [], ◌∷◌, ◌++◌, Option, None, Some, Result, Ok, Err}
use Rattle.js_base.specs.declared.out.Out.{Out}
use Rattle.js_model.specs.declared.desk.PlaceAt.{PlaceAt}
use Rattle.js_model.specs.Router as router
use Rattle.js_model.specs.Catalog.{CatCall, At}
use Rattle.js_api.specs.declared.fault.DeskFault.{DeskFault}
use Rattle.js_api.specs.declared.fault.DeskFault.TheVariants as faults
use Rattle.js_api.specs.Entries.{DeskEntry, Routed, Looked, Spent}

-- the first stage ended the call
pub record Ends {X Y : Type 0} (first : Result X DeskFault → List DeskEntry → Type 0) (result : Result Y DeskFault) (entries : List DeskEntry) : Type 0 where
  pub fault : DeskFault
  pub result_is : result ≡ Err fault
  pub ended : first (Err fault) entries

-- the first stage gave something, by which the next one went on
pub record GoesOn {X Y : Type 0} (first : Result X DeskFault → List DeskEntry → Type 0) (next : X → Result Y DeskFault → List DeskEntry → Type 0) (result : Result Y DeskFault) (entries : List DeskEntry) : Type 0 where
  pub given : X
  pub before : List DeskEntry
  pub more : List DeskEntry
  pub entries_are : entries ≡ before ++ more
  pub first_is : first (Ok given) before
  pub next_is : next given result more

-- one stage, and then the next
abbrev pub Then : {X Y : Type 0} → (Result X DeskFault → List DeskEntry → Type 0) → (X → Result Y DeskFault → List DeskEntry → Type 0) → Result Y DeskFault → List DeskEntry → Type 0
Then first next result entries = Ends first result entries ⊎ GoesOn first next result entries

-- nothing is done, and this is given
pub record Gives {X : Type 0} (value : X) (result : Result X DeskFault) (entries : List DeskEntry) : Type 0 where
  pub result_is : result ≡ Ok value
  pub entries_are : entries ≡ []

-- ---- a turn that cannot be entered

-- a turn was to be entered and its numbers are used up: the last one is this
abbrev pub IsWorn : ℕ → List DeskEntry → Type 0
IsWorn number entries = entries ≡ Spent number ∷ []

-- ---- the catalog

-- a place is looked up, in a turn of the catalog of its own or as the first thing in one
abbrev pub LooksUp : CatCall → Result (Option PlaceAt) DeskFault → List DeskEntry → Type 0
LooksUp call (Ok found) entries = entries ≡ Looked false call (At found) ∷ []
LooksUp call (Err faults.NoMemory) entries = ⊥
LooksUp call (Err faults.TooManySubs) entries = ⊥
LooksUp call (Err (faults.Worn number)) entries = IsWorn number entries
LooksUp call (Err (faults.NoSession latest)) entries = ⊥

-- ---- the server's own messages

-- a message of the server itself is made and routed by the caller; memory may run out for making it, or in the router
abbrev pub SendsOne : Out → Result (Unit {0}) DeskFault → List DeskEntry → Type 0
SendsOne out (Ok _) entries = (count : ℕ) × (entries ≡ Routed (router.Publish out None) (router.Taken count) ∷ [])
SendsOne out (Err faults.NoMemory) entries = (entries ≡ []) ⊎ (entries ≡ Routed (router.Publish out None) router.NoMemory ∷ [])
SendsOne out (Err faults.TooManySubs) entries = ⊥
SendsOne out (Err (faults.Worn number)) entries = IsWorn number entries
SendsOne out (Err (faults.NoSession latest)) entries = ⊥

-- these messages, in order
abbrev pub Sends : List Out → Result (Unit {0}) DeskFault → List DeskEntry → Type 0
Sends [] result entries = Gives tt result entries
Sends (out ∷ outs) result entries = Then (SendsOne out) (λ _. Sends outs) result entries

-- ---- what may end a call

-- something is read or put together, for which memory may run out
abbrev pub Reads : {X : Type 0} → X → Result X DeskFault → List DeskEntry → Type 0
Reads value (Ok given) entries = (given ≡ value) × (entries ≡ [])
Reads value (Err faults.NoMemory) entries = entries ≡ []
Reads value (Err faults.TooManySubs) entries = ⊥
Reads value (Err (faults.Worn number)) entries = ⊥
Reads value (Err (faults.NoSession latest)) entries = ⊥

-- the call ends by the fault, if there is one, and else it goes on so
abbrev pub Ending : {X : Type 0} → Option DeskFault → (Result X DeskFault → List DeskEntry → Type 0) → Result X DeskFault → List DeskEntry → Type 0
Ending None next result entries = next result entries
Ending (Some fault) next result entries = (result ≡ Err fault) × (entries ≡ [])
