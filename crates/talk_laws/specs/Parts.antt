-- A part of a run of a place, by rules of this server's own: the states between which it stands, what came before it and what comes after it.
use Rattle.std.specs.Prelude.{◌≡◌, ◌++◌, ℕ, Bool, List, [], ◌∷◌, length}
use Rattle.js_base.specs.declared.out.Out.{Out}
use Rattle.js_model.specs.declared.stream.State.{State}
use Rattle.js_model.specs.declared.event.Event.{Event}
use Rattle.js_model.specs.declared.reply.Reply.{Reply}
use Rattle.js_model.specs.declared.entry.PlaceEntry.{PlaceEntry}
use Rattle.js_model.specs.declared.entry.PlaceEntry.TheVariants.{Step}
use Rattle.js_model.specs.Runs.{RunFrom, messages_of, total_of}

-- A run from `first` to `last`, cut in three: `earlier` leads to `old`, from there `entries`, which is the part, leads to `new`, and `later` leads to
-- `last`.
pub record Part : Type 0 where
  pub first : State
  pub earlier : List PlaceEntry
  pub old : State
  pub entries : List PlaceEntry
  pub new : State
  pub later : List PlaceEntry
  pub last : State
  pub before : RunFrom (length (messages_of first)) first earlier old
  pub during : RunFrom (total_of (length (messages_of first)) first earlier old before) old entries new
  pub after : RunFrom (total_of (total_of (length (messages_of first)) first earlier old before) old entries new during) new later last

-- how many messages stood at first or were stored before the part
abbrev pub count_before : Part → ℕ
count_before p = total_of (length (messages_of p.first)) p.first p.earlier p.old p.before

-- it is a part of these entries, which lead from the one state to the other
pub record IsPartOf (first : State) (entries : List PlaceEntry) (last : State) (p : Part) : Type 0 where
  pub first_is : p.first ≡ first
  pub entries_are : p.earlier ++ (p.entries ++ p.later) ≡ entries
  pub last_is : p.last ≡ last

-- a part of a run that is cut so: of these entries, behind the earlier ones and before the later ones
pub record Cut (first : State) (earlier entries later : List PlaceEntry) (last : State) : Type 0 where
  pub part : Part
  pub first_is : part.first ≡ first
  pub earlier_is : part.earlier ≡ earlier
  pub entries_are : part.entries ≡ entries
  pub later_is : part.later ≡ later
  pub last_is : part.last ≡ last

-- the part is one step, of this event
pub record IsStepOf (p : Part) (e : Event) (now : ℕ) (reply : Reply) (outs : List Out) : Type 0 where
  pub seat : ℕ
  pub unsaid : Bool
  pub only : p.entries ≡ Step seat e now reply outs unsaid ∷ []

-- right before the part stands a step of this event
pub record IsStepBefore (p : Part) (e : Event) (now : ℕ) (reply : Reply) (outs : List Out) : Type 0 where
  pub seat : ℕ
  pub unsaid : Bool
  pub more : List PlaceEntry
  pub last : p.earlier ≡ more ++ Step seat e now reply outs unsaid ∷ []

-- right after the part stands a step of this event
pub record IsStepAfter (p : Part) (e : Event) (now : ℕ) (reply : Reply) (outs : List Out) : Type 0 where
  pub seat : ℕ
  pub unsaid : Bool
  pub more : List PlaceEntry
  pub first : p.later ≡ Step seat e now reply outs unsaid ∷ more
