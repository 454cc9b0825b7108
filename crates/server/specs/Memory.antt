-- What holds of each run over places in memory.
use Rattle.std.specs.Prelude.{◌≡◌, ℕ, List, length, Option, IsSome}
use Rattle.js_api.specs.Entries.{DeskEntry}
use Rattle.desk_places.specs.Closing.{Closes}
use Rattle.desk_places.specs.Opening.{FailsToOpen}
use Rattle.js_desk.specs.Opening.{OpensDesk}
use Rattle.js_desk.specs.Solo.{Solo, DeskMade}
use Rattle.desk_places.specs.declared.faults.Closed.{Closed}
use Rattle.desk_places.specs.declared.faults.HubFault.{HubFault}
use Rattle.place_engine.specs.InMemory.{Contents, bases_on_nothing, counts_none, holds_nothing, leaves_nothing, never_short, opens_vacant, reads_nothing, refuses_in_memory, seen_of}
use Rattle.place_engine.specs.Stepping.{Seen}
use Rattle.server.specs.declared.words.NamedStream.{NamedStream}
use Rattle.server.specs.Ending.{PipeEnds}
use Rattle.server.specs.Laws.{AreWelcoming, HasPlace, LeavesUntroubled, MayOpen}
use Rattle.server.specs.Lines.{number_line}
use Rattle.server.specs.Outside.{Outside, SinkTold, Prints}

module _ {V : Type 0} where
  -- a volume stays as it is
  abbrev pub Keeps : V → V → Type 0
  Keeps old new = new ≡ old

  abbrev pub place_of : Contents V → Seen
  place_of place = seen_of place.state

  abbrev pub volume_of : Contents V → V
  volume_of place = place.vol

  -- of desks whose places are in memory: as what one is opened on volumes, why none is, what entries make of it, and what is left of it at its closing
  abbrev pub Opens : List V → Solo V → Type 0
  Opens = OpensDesk place_of volume_of holds_nothing reads_nothing leaves_nothing counts_none counts_none never_short bases_on_nothing opens_vacant refuses_in_memory Keeps

  abbrev pub Refuses : List V → HubFault V → Type 0
  Refuses = FailsToOpen place_of volume_of holds_nothing reads_nothing leaves_nothing counts_none counts_none never_short bases_on_nothing opens_vacant refuses_in_memory Keeps

  abbrev pub Made : Solo V → List DeskEntry → Solo V → Type 0
  Made = DeskMade Keeps holds_nothing leaves_nothing counts_none bases_on_nothing (λ state what. ⊥)

  abbrev pub Leaves : Solo V → Closed V → Type 0
  Leaves desk closed = Closes place_of volume_of holds_nothing reads_nothing leaves_nothing counts_none bases_on_nothing Keeps desk.vols desk.scene.world.places closed

  -- how a run of `pipe` ends
  abbrev pub EndsInMemory : Option NamedStream → ℕ → List V → List V → Outside → Outside → Type 0
  EndsInMemory = PipeEnds Opens Refuses Made Leaves

-- only want of memory keeps a desk from being opened
abbrev pub LawMayOpen : Type 0 → Type 0
LawMayOpen V = (vols_old vols_new : List V) → MayOpen Opens Refuses Made Leaves vols_old vols_new

-- a stream is welcome if there is a volume
abbrev pub LawWelcoming : Type 0 → Type 0
LawWelcoming V = (vols : List V) (stream : Option NamedStream) → HasPlace (length vols) stream → AreWelcoming Opens Refuses Made Leaves vols stream

-- the volumes are untroubled as a desk is closed
abbrev pub LawUntroubled : Type 0 → Type 0
LawUntroubled V = (stream : Option NamedStream) (status : ℕ) (vols_old vols_new : List V) (old new : Outside)
    (run : EndsInMemory stream status vols_old vols_new old new) → LeavesUntroubled Opens Refuses Made Leaves run

-- no volume was handed in, so no place was free for the stream, which is told by the number of that error
pub record IsPlaceless {V : Type 0} (stream : Option NamedStream) (vols : List V) (old new : SinkTold) : Type 0 where
  pub named : IsSome stream
  pub none : length vols ≡ 0
  pub printed : Prints (number_line 20007) old new

-- that alone is why a stream is refused
abbrev pub LawPlaceless : Type 0 → Type 0
LawPlaceless V = (stream : Option NamedStream) (vols_old vols_new : List V) (old new : Outside)
    → EndsInMemory stream 11 vols_old vols_new old new → IsPlaceless stream vols_old old.sink new.sink

-- the volumes come back as they were
abbrev pub LawUnchanged : Type 0 → Type 0
LawUnchanged V = (stream : Option NamedStream) (status : ℕ) (vols_old vols_new : List V) (old new : Outside)
    → EndsInMemory stream status vols_old vols_new old new → vols_new ≡ vols_old
