-- What became of the volumes on which a desk was to be opened, in the order of its places.
use Rattle.std.specs.Prelude.{◌≡◌, ◌⊎◌, ◌++◌, ℕ, List, ◌∷◌, length, map, reverse, Option, None}
use Rattle.std.specs.List.{AllZip}
use Rattle.js_base.specs.Causes.{Rose}
use Rattle.js_model.specs.declared.stream.State.{State}
use Rattle.catalog.specs.Conflicts.{IsFirstConflict}
use Rattle.place_engine.specs.Opening.{AllHold, HasNoRoom, IsOpened, IsUnopened}
use Rattle.place_engine.specs.Stepping.{Image, Seen}
use Rattle.place_engine.specs.declared.faults.OpenFault.{OpenFault}
use Rattle.place_engine.specs.declared.faults.OpenFault.TheVariants.{Fault, NoRoom}
use Rattle.place_engine.specs.Preparing.{RoomCauses}
use Rattle.js_api.specs.Worlds.{kept_in}
use Rattle.crash_laws.specs.Opened.{IsOpenedAt}
use Rattle.desk_places.specs.Places.{places_by}
use Rattle.desk_places.specs.declared.faults.HubFault.{HubFault}
use Rattle.desk_places.specs.declared.faults.HubFault.TheVariants.{Open, Conflict, NoMemory}

-- Of a kind of place: what contracts see of it, its volume, which state an image holds, what reads of a volume give and what a crash may have left of it, its
-- moment, its faults and why there may be no room, which states it may hold, to which states a place may be opened on it and why not, and what a call may make of it.
module _ {P V : Type 0} (seen : P → Seen) (vol : P → V) (holds : Image → State → Type 0) (reads : V → Image → Type 0) (left : V → ℕ → Image → Type 0) (clock faults : V → ℕ) (causes : RoomCauses V)
    (base : Option ℕ → V → State → Type 0) (opens : V → State → Type 0) (refuses : V → OpenFault → Type 0) (keeps : V → V → Type 0) where
  -- A place was opened on the volume, which holds the state to which it was opened. If the volume held it before, then each image that a crash since then may
  -- have left holds it.
  pub record OpensOn (before : V) (p : P) : Type 0 where
    pub opened : IsOpened holds reads left clock opens before (seen p)
    pub volume : keeps before (vol p)
    pub now : AllHold holds reads left clock (vol p) (seen p).place.state
    pub since : AllHold holds reads left clock before (seen p).place.state → IsOpenedAt holds left clock (base None (vol p)) (clock before) (seen p).place.state (vol p)

  -- no place was opened on the volume, for this reason
  pub record RefusesOn (before : V) (fault : OpenFault) (after : V) : Type 0 where
    pub refused : refuses before fault
    pub cause : fault ≡ Fault → Rose (faults before) (faults after)
    pub no_room : fault ≡ NoRoom → HasNoRoom causes opens before after
    pub unopened : IsUnopened holds reads left clock opens before after
    pub volume : keeps before after

  -- the places of the first volumes were opened, and the one of the next volume was not, which has this number; those behind it are as they were
  pub record FailsAt (place : ℕ) (fault : OpenFault) (before after : List V) : Type 0 where
    pub first : List V
    pub at : V
    pub more : List V
    pub before_are : before ≡ first ++ at ∷ more
    pub number : place ≡ length first
    pub row : List P
    pub opened : AllZip OpensOn first row
    pub left_of : V
    pub refused : RefusesOn at fault left_of
    pub after_are : after ≡ map vol row ++ left_of ∷ more

  -- of volumes that stand in the other order, those that came first have their places, and the next one has none; the others are as they were
  pub record StopsAt (before : List V) (fault : OpenFault) (left_of : V) (after : List V) (row : List P) : Type 0 where
    pub first : List V
    pub at : V
    pub before_are : reverse before ≡ first ++ at ∷ reverse after
    pub opened : AllZip OpensOn first row
    pub refused : RefusesOn at fault left_of

  -- all were opened, and are let go again
  pub record LetsGo (row : List P) (before after : List V) : Type 0 where
    pub opened : AllZip OpensOn before row
    pub after_are : after ≡ map vol row

  -- all were opened, and the streams of these two are the first that share a name or have subjects that meet
  pub record ConflictsAt (first second : ℕ) (before after : List V) : Type 0 where
    pub row : List P
    pub lets_go : LetsGo row before after
    pub conflict : IsFirstConflict (map kept_in (places_by seen row)) first second

  -- memory ran out before the first place was opened, or behind the last one
  abbrev pub RunsShort : List V → List V → Type 0
  RunsShort before after = (after ≡ before) ⊎ ((row : List P) × LetsGo row before after)

  abbrev pub FailsToOpen : List V → HubFault V → Type 0
  FailsToOpen before (Open place fault back) = FailsAt place fault before back.items
  FailsToOpen before (Conflict first second back) = ConflictsAt first second before back.items
  FailsToOpen before (NoMemory back) = RunsShort before back.items
