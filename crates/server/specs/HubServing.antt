-- How a run of `serve` ends, and why.
use Rattle.std.specs.Prelude.{◌+◌, ◌≡◌, ◌-◌, ◌^◌, ℕ, Bool, false, true, List, Option, None, Some}
use Rattle.std.specs.Net.Socket.{socket_ip, socket_port}
use Rattle.std.specs.Net.Text.{ip_text}
use Rattle.hub_fronts.specs.Fronts.{SharedScene}
use Rattle.link_edge.specs.Notices.{NoticeTold, noticed}
use Rattle.link_edge.specs.declared.notice.Found.{Found}
use Rattle.desk_places.specs.declared.faults.Closed.{Closed}
use Rattle.desk_places.specs.declared.faults.HubFault.{HubFault}
use Rattle.session.specs.declared.ending.Limits.{Limits}
use Rattle.shared_desk.specs.Finding.{messages_found, streams_found}
use Rattle.shared_desk.specs.Hubs.{HubView}
use Rattle.workers.specs.Doors as doors
use Rattle.workers.specs.Serving.{Serves}
use Rattle.workers.specs.declared.doorway.Stop.{Stop}
use Rattle.workers.specs.declared.doorway.Stop.TheVariants as stops
use Rattle.workers.specs.declared.serving.Came.{Came}
use Rattle.workers.specs.declared.serving.Came.TheVariants as came
use Rattle.server.specs.declared.listening.AcceptLimit.{AcceptLimit}
use Rattle.server.specs.declared.listening.AcceptLimit.TheVariants as limits
use Rattle.server.specs.declared.listening.Listening.{Listening}
use Rattle.server.specs.declared.serving.Outcome.{Outcome}
use Rattle.server.specs.Closing.{closing_line, closing_status}
use Rattle.server.specs.Outside.{DoorTold, Outside, PrintsLine}
use Rattle.server.specs.Refusing.{refused_line, refused_status, vols_of}

-- A session may take nearly any number of bytes, and a million takes in a row that are quiet. It tells the address that is listened at, and does not let
-- time pass itself.
abbrev pub serve_limits : Listening → Limits
serve_limits listening =
    record { input = 2 ^ 62 - 1; quiet = 1000000; host = ip_text (socket_ip listening.listen); port = socket_port listening.listen; ticks = false }

abbrev pub most_of : AcceptLimit → Option ℕ
most_of limits.Unlimited = None
most_of (limits.Connections n) = Some n

-- ---- the outcome of all sessions together

-- numbers that were used up stand before want of memory
abbrev pub noted_outcome : (worn starved : Bool) → Outcome
noted_outcome true starved = record { status = 10; served = true }
noted_outcome false true = record { status = 7; served = true }
noted_outcome false false = record { status = 0; served = true }

-- a door that failed stands before what a session ended by
abbrev pub stopped_outcome : Stop → (worn starved : Bool) → Outcome
stopped_outcome stops.Closed worn starved = noted_outcome worn starved
stopped_outcome stops.Full worn starved = noted_outcome worn starved
stopped_outcome stops.Failed worn starved = record { status = 8; served = false }

abbrev pub outcome_of : Came → Outcome
outcome_of came.Unbegun = record { status = 7; served = false }
outcome_of (came.Served stop worn starved) = stopped_outcome stop worn starved

-- ---- the run

-- what stood in the places of a hub as they were opened
abbrev pub found_in : HubView → Found
found_in hub = record { streams = streams_found hub.places; messages = messages_found hub.places }

-- what the door tells of its links
abbrev pub links_told : DoorTold → doors.DoorTold
links_told door = record { answered = door.answered; gave = door.gave; back = door.back; faults = door.faults }

-- Of places of one kind: how a hub is opened on volumes for so many callers, why none is, and what is left of it as all its passes are taken in.
module _ {V : Type 0} (Opens : List V → ℕ → HubView → List SharedScene → Type 0) (Refuses : List V → HubFault V → Type 0) (Closes : HubView → List SharedScene → Closed V → Type 0) where
  -- memory ran out before the volumes were touched
  pub record IsHubStarved (status : ℕ) (vols_old vols_new : List V) (old new : Outside) (told_old told_new : Option NoticeTold) : Type 0 where
    pub status_is : status ≡ 7
    pub vols : vols_new ≡ vols_old
    pub outside : new ≡ old
    pub untold : told_new ≡ told_old

  -- no hub was opened, the line that says why was printed, if there is one, and the volumes came back
  pub record IsHubUnopened (status : ℕ) (vols_old vols_new : List V) (old new : Outside) (told_old told_new : Option NoticeTold) : Type 0 where
    pub fault : HubFault V
    pub refused : Refuses vols_old fault
    pub vols : vols_new ≡ vols_of fault
    pub status_is : status ≡ refused_status fault
    pub printed : PrintsLine (refused_line fault) old.sink new.sink
    pub unread : new.clock ≡ old.clock
    pub door : new.door ≡ old.door
    pub untold : told_new ≡ told_old

  -- A hub was opened on the volumes, and the notice was told once what stood there. The links that came were served by as many workers as were asked for,
  -- while one caller more let time pass, and the hub was closed with the passes as these left them. The line for a place whose store failed in the closing was printed, and the volumes came back.
  pub record IsHubServed (listening : Listening) (status : ℕ) (vols_old vols_new : List V) (old new : Outside) (told_old told_new : Option NoticeTold) : Type 0 where
    pub hub : HubView
    pub passes : List SharedScene
    pub after : List SharedScene
    pub came : Came
    pub closed : Closed V
    pub opens : Opens vols_old (listening.workers + 1) hub passes
    pub told : told_new ≡ noticed told_old (found_in hub)
    pub serves : Serves (serve_limits listening) (most_of listening.accepts) hub passes after (links_told old.door) (links_told new.door) came
    pub closes : Closes hub after closed
    pub vols : vols_new ≡ closed.vols.items
    pub status_is : status ≡ closing_status (outcome_of came).served (outcome_of came).status closed.failed
    pub printed : PrintsLine (closing_line (outcome_of came).status closed.failed) old.sink new.sink
    pub unread : new.clock ≡ old.clock

  -- how a run of `serve` ends with this status, and the volumes, the outside and what the notice was told before and after it
  pub data ServeEnds (listening : Listening) (status : ℕ) (vols_old vols_new : List V) (old new : Outside) (told_old told_new : Option NoticeTold) : Type 0 where
    HubStarved : IsHubStarved status vols_old vols_new old new told_old told_new → ServeEnds listening status vols_old vols_new old new told_old told_new
    HubUnopened : IsHubUnopened status vols_old vols_new old new told_old told_new → ServeEnds listening status vols_old vols_new old new told_old told_new
    HubServed : IsHubServed listening status vols_old vols_new old new told_old told_new → ServeEnds listening status vols_old vols_new old new told_old told_new
