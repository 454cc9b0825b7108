-- Why a hold may find no room for what is asked of its place, by rules of this server's own.
use Rattle.std.specs.Prelude.{◌≡◌, ◌⊎◌, true, false, List, [], ◌∷◌}
use Rattle.std.specs.List.{AllByRecursion}
use Rattle.js_base.specs.Causes.{Rose}
use Rattle.js_model.specs.declared.event.What.{What}
use Rattle.js_model.specs.declared.stream.State.{State}
use Rattle.js_model.specs.declared.reply.Reply.TheVariants.{Refused}
use Rattle.js_model.specs.declared.entry.PlaceEntry.{PlaceEntry}
use Rattle.js_model.specs.declared.entry.PlaceEntry.TheVariants.{Step, Deliver, Broken}
use Rattle.js_model.specs.Refusals.{no_room}
use Rattle.js_model.specs.Runs.{is_few}
use Rattle.js_api.specs.Entries.{Hold, DeskEntry, Routed, Looked, Turned, Resumed, Held, Stirred, Halted, Missed, Spent}

-- a step of these was refused for want of room
abbrev pub FindNoRoom : List PlaceEntry → Type 0
FindNoRoom [] = ⊥
FindNoRoom (Step seat e now reply outs unsaid ∷ more) = (reply ≡ Refused no_room) ⊎ FindNoRoom more
FindNoRoom (Deliver seat now listening d outs ∷ more) = FindNoRoom more
FindNoRoom (Broken seat now call ∷ more) = FindNoRoom more

-- the volume refused it in the hold, so many messages count that no file may be free for one more, or more would stand there than a log can begin with
abbrev pub MayFindNoRoom : Hold → Type 0
MayFindNoRoom hold = Rose hold.volume_before.refusals hold.volume_between.refusals ⊎ ((is_few hold.stored ≡ false) ⊎ (hold.outgrows ≡ true))

-- ---- what a log can begin with

-- with something that was asked of a place in this state more would stand there, by such a rule
abbrev pub SomeOutgrows : (State → What → Type 0) → State → List PlaceEntry → Type 0
SomeOutgrows outgrows old [] = ⊥
SomeOutgrows outgrows old (Step seat e now reply outs unsaid ∷ more) = outgrows old e.what ⊎ SomeOutgrows outgrows old more
SomeOutgrows outgrows old (Deliver seat now listening d outs ∷ more) = SomeOutgrows outgrows old more
SomeOutgrows outgrows old (Broken seat now call ∷ more) = SomeOutgrows outgrows old more

-- it is told of a hold only if it is so
abbrev pub IsOutgrown : (State → What → Type 0) → DeskEntry → Type 0
IsOutgrown outgrows (Routed call told) = Unit {0}
IsOutgrown outgrows (Looked joined call told) = Unit {0}
IsOutgrown outgrows (Turned after found) = Unit {0}
IsOutgrown outgrows (Resumed last) = Unit {0}
IsOutgrown outgrows (Held hold) = hold.outgrows ≡ true → SomeOutgrows outgrows hold.before hold.steps
IsOutgrown outgrows (Stirred at before after failed) = Unit {0}
IsOutgrown outgrows (Halted at state) = Unit {0}
IsOutgrown outgrows (Missed at kept) = Unit {0}
IsOutgrown outgrows (Spent number) = Unit {0}

abbrev pub AreOutgrown : (State → What → Type 0) → List DeskEntry → Type 0
AreOutgrown outgrows entries = AllByRecursion (IsOutgrown outgrows) entries
