-- How a run of the program ends, and why.
use Rattle.std.specs.Prelude.{◌≡◌, ℕ, List, Option}
use Rattle.js_api.specs.Entries.{DeskEntry}
use Rattle.js_desk.specs.Solo.{Solo}
use Rattle.desk_places.specs.declared.faults.Closed.{Closed}
use Rattle.desk_places.specs.declared.faults.HubFault.{HubFault}
use Rattle.server.specs.declared.serving.Outcome.{Outcome}
use Rattle.server.specs.declared.words.NamedStream.{NamedStream}
use Rattle.server.specs.Outside.{Outside, SinkTold, PrintsLine}
use Rattle.server.specs.Attending.{IsAttendedOver}
use Rattle.server.specs.Closing.{closing_line, closing_status}
use Rattle.server.specs.Refusing.{refused_line, refused_status, vols_of}

-- Of places of one kind, and the desks over them: as what a desk is opened on volumes, why none is opened, what entries make of a desk, and what is left of
-- it at its closing.
module _ {V : Type 0} (Opens : List V → Solo V → Type 0) (Refuses : List V → HubFault V → Type 0) (Made : Solo V → List DeskEntry → Solo V → Type 0) (Closes : Solo V → Closed V → Type 0) where
  -- memory ran out before the volumes were touched
  pub record IsStarved (status : ℕ) (vols_old vols_new : List V) (old new : Outside) : Type 0 where
    pub status_is : status ≡ 7
    pub vols : vols_new ≡ vols_old
    pub outside : new ≡ old

  -- no desk was opened, the line that says why was printed, if there is one, and the volumes came back
  pub record IsUnopened (status : ℕ) (vols_old vols_new : List V) (old new : Outside) : Type 0 where
    pub fault : HubFault V
    pub refused : Refuses vols_old fault
    pub vols : vols_new ≡ vols_of fault
    pub status_is : status ≡ refused_status fault
    pub printed : PrintsLine (refused_line fault) old.sink new.sink
    pub unread : new.clock ≡ old.clock
    pub door : new.door ≡ old.door

  -- A desk was opened on the volumes, all was done over it, and it was closed as that left it. The line for a place whose store failed in the closing was
  -- printed last, and the volumes came back.
  pub record IsAttended (stream : Option NamedStream) (status : ℕ) (vols_old vols_new : List V) (old new : Outside) : Type 0 where
    pub desk : Solo V
    pub after : Solo V
    pub outcome : Outcome
    pub sink : SinkTold
    pub closed : Closed V
    pub opens : Opens vols_old desk
    pub attended : IsAttendedOver Made desk after stream outcome old (record new { sink = sink })
    pub closes : Closes after closed
    pub vols : vols_new ≡ closed.vols.items
    pub status_is : status ≡ closing_status outcome.served outcome.status closed.failed
    pub printed : PrintsLine (closing_line outcome.status closed.failed) sink new.sink

  -- how a run of `pipe` ends with this status, and the volumes before and after it
  pub data PipeEnds (stream : Option NamedStream) (status : ℕ) (vols_old vols_new : List V) (old new : Outside) : Type 0 where
    Starved : IsStarved status vols_old vols_new old new → PipeEnds stream status vols_old vols_new old new
    Unopened : IsUnopened status vols_old vols_new old new → PipeEnds stream status vols_old vols_new old new
    Attended : IsAttended stream status vols_old vols_new old new → PipeEnds stream status vols_old vols_new old new
