-- What a crash may leave of what was made at a place, by rules of this server's own: a beginning of it, with all that was confirmed by then.
use Rattle.std.specs.Prelude.{◌≡◌, ◌⊎◌, ◌<◌, ◌++◌, ℕ, List, [], ◌∷◌, Result, Ok, Err}
use Rattle.js_model.specs.declared.stream.State.{State}
use Rattle.js_model.specs.declared.event.Event.{Event}
use Rattle.js_model.specs.declared.entry.PlaceEntry.{PlaceEntry}
use Rattle.js_model.specs.Firm.{IsFirm, IsFirmStep}
use Rattle.js_model.specs.Lasting.{lasting}
use Rattle.js_model.specs.Runs.{RunFrom}
use Rattle.js_api.specs.Entries.{entries_in, DeskEntry, Routed, Looked, Turned, Resumed, Held, Stirred, Halted, Missed, Spent}
use Rattle.place_engine.specs.Stepping.{Elapses, Image, MayKeepBase, Seen}
use Rattle.place_engine.specs.declared.faults.PlaceFault.{PlaceFault}
use Rattle.desk_hold.specs.declared.stepping.MadeStep.{MadeStep}

-- ---- a beginning

-- one entry leads from old to new by the machine
abbrev pub IsEntry : State → PlaceEntry → State → Type 0
IsEntry old e new = (count : ℕ) × RunFrom count old (e ∷ []) new

-- they lead from old to new one after the other, and one of them is confirmed only if it may be
abbrev pub Chain : Type 0 → State → List PlaceEntry → State → Type 0
Chain may old [] new = old ≡ new
Chain may old (e ∷ more) new = (mid : State) × IsEntry old e mid × (IsFirm old e mid → may) × Chain may mid more new

-- What is left of them is what outlives a crash of the state behind the first ones; or, if there are no first ones, what the volume may have held before.
-- Of the others, which are lost, one is confirmed only if it may be.
pub record IsLeftOf (may : Type 0) (is_base : State → Type 0) (old : State) (entries : List PlaceEntry) (new left : State) : Type 0 where
  pub first : List PlaceEntry
  pub more : List PlaceEntry
  pub entries_are : entries ≡ first ++ more
  pub mid : State
  pub stays : Chain (Unit {0}) old first mid
  pub lost : Chain may mid more new
  pub left_is : (left ≡ lasting mid) ⊎ ((first ≡ []) × is_base left)

-- ---- at any moment

-- at no moment
abbrev pub Never : ℕ → Type 0
Never t = ⊥

-- The entries led a place from old to new. Each image of a crash at some moment from t on was left before them if t was before them, or holds what is
-- left of them; and a confirmed one is lost only if t is early. Whatever the volume may hold then is left of them, with all that are confirmed.
pub record Outlasts (holds : Image → State → Type 0) (IsEarly : ℕ → Type 0) (entries : List PlaceEntry) (old new : Seen) : Type 0 where
  pub led : Chain (Unit {0}) old.place.state entries new.place.state
  pub crash : (t : ℕ) (image : Image) → new.left_since t image
      → ((t < old.place.volume.moment) × old.left_since t image)
      ⊎ ((left : State) × holds image left × IsLeftOf (IsEarly t) old.is_base old.place.state entries new.place.state left)
  pub base : (b : State) → new.is_base b → IsLeftOf ⊥ old.is_base old.place.state entries new.place.state b

-- ---- a hold

-- what stands of these in the run of a place
abbrev pub made_by : List DeskEntry → List PlaceEntry
made_by [] = []
made_by (Routed call told ∷ more) = made_by more
made_by (Looked joined call told ∷ more) = made_by more
made_by (Turned after found ∷ more) = made_by more
made_by (Resumed last ∷ more) = made_by more
made_by (Held hold ∷ more) = entries_in hold ++ made_by more
made_by (Stirred at before after failed ∷ more) = made_by more
made_by (Halted at state ∷ more) = made_by more
made_by (Missed at kept ∷ more) = made_by more
made_by (Spent number ∷ more) = made_by more

-- at this moment of its volume a hold among these had not made all of its steps
abbrev pub IsEarlyIn : List DeskEntry → ℕ → Type 0
IsEarlyIn [] t = ⊥
IsEarlyIn (Routed call told ∷ more) t = IsEarlyIn more t
IsEarlyIn (Looked joined call told ∷ more) t = IsEarlyIn more t
IsEarlyIn (Turned after found ∷ more) t = IsEarlyIn more t
IsEarlyIn (Resumed last ∷ more) t = IsEarlyIn more t
IsEarlyIn (Held hold ∷ more) t = (t < hold.volume_between.moment) ⊎ IsEarlyIn more t
IsEarlyIn (Stirred at before after failed ∷ more) t = IsEarlyIn more t
IsEarlyIn (Halted at state ∷ more) t = IsEarlyIn more t
IsEarlyIn (Missed at kept ∷ more) t = IsEarlyIn more t
IsEarlyIn (Spent number ∷ more) t = IsEarlyIn more t

-- ---- one call of the place

-- what a crash may leave within it; and the volume then holds what it may have held before, or what outlives a crash of what stands then
pub record MayCommit (holds : Image → State → Type 0) (old new : Seen) : Type 0 where
  pub time : Elapses holds old new
  pub base : MayKeepBase old new

-- a confirmed step is on the volume
abbrev pub IsCommitted : Result MadeStep PlaceFault → Event → Seen → Seen → Type 0
IsCommitted (Ok step) event old new = IsFirmStep old.place.state event.what step.reply new.place.state → (b : State) → new.is_base b → b ≡ lasting new.place.state
IsCommitted (Err fault) event old new = Unit {0}

pub record CommitsStep (holds : Image → State → Type 0) (result : Result MadeStep PlaceFault) (event : Event) (old new : Seen) : Type 0 where
  pub commits : MayCommit holds old new
  pub firm : IsCommitted result event old new
