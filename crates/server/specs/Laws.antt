-- What a run comes to whose client sends whole operations, if nothing stands in the way.
use Rattle.std.specs.Prelude.{◌≡◌, ℕ, ◌<◌, ◌^◌, ◌-◌, true, false, ◌⊎◌, List, [], ◌∷◌, ◌++◌, length, replicate, All, IfSome, Option, None, Some, Ok}
use Rattle.std.specs.List.{AllZip, flat_map}
use mathlib.Core.Logic.{inl, inr}
use Rattle.js_base.specs.Bytes.{Bytes}
use Rattle.js_base.specs.Causes.{Rose}
use Rattle.js_base.specs.declared.out.ApiError.{ApiError}
use Rattle.js_model.specs.PlaceStates.{PlaceIn, vacant_place}
use Rattle.js_model.specs.Runs.{is_few}
use Rattle.js_model.specs.Router.{Router, Session, Waiting, Queue, Marked, session_of}
use Rattle.link_edge.specs.declared.answers.Answer.{Answer}
use Rattle.link_edge.specs.declared.answers.Answer.TheVariants as answers
use Rattle.nats_frames.specs.declared.op.Op.{Op}
use Rattle.nats_frames.specs.Grammar.{Fronts}
use Rattle.js_desk.specs.Solo.{Solo}
use Rattle.desk_places.specs.declared.faults.Closed.{Closed}
use Rattle.desk_places.specs.declared.faults.HubFault.{HubFault}
use Rattle.place_engine.specs.declared.faults.PlaceFault.{PlaceFault}
use Rattle.js_api.specs.Entries.{DeskEntry, Routed, Looked, Turned, Resumed, Held, Stirred, Halted, Missed, Spent, entries_in}
use Rattle.js_api.specs.Leading.{Leads}
use Rattle.js_api.specs.Rooms.{FindNoRoom}
use Rattle.js_api.specs.Worlds.{World, Scene, SoloStep, is_broken}
use Rattle.session.specs.Keeping.{is_stale}
use Rattle.session.specs.Peer.{Act, Hears, Ticks, op_request, IsRefused}
use Rattle.session.specs.Talk.{Journal, Waiting as AtQuiet, Stage, start, AreTurns, IsFrontOf, acts_of, answers_of, entries_of, greeting, turn_spoken}
use Rattle.session.specs.declared.ending.Refusal.{Refusal}
use Rattle.server.specs.declared.words.NamedStream.{NamedStream}
use Rattle.server.specs.Outside.{DoorTold, Outside}
use Rattle.server.specs.Accepting.{IsQuiet}
use Rattle.server.specs.Attending.{run_entries}
use Rattle.server.specs.Preparing.{IsMaking}
use Rattle.server.specs.Running.{Waits, Attends, Unmade, Awaited, pipe_limits}
use Rattle.server.specs.Closing.{flush_status}
use Rattle.server.specs.Refusing.{refused_status, vols_of}
use Rattle.server.specs.Ending.{IsAttended, PipeEnds, Starved, Unopened, Attended}

-- ---- what the client sends

-- an operation for which no session is closed
abbrev pub IsSound : Op → Type 0
IsSound op = (now : ℕ) (refusal : Refusal) → op_request now op ≡ IsRefused refusal → ⊥

-- whole operations, in fewer bytes than a session may take
pub record IsValid (input : Bytes) (ops : List Op) : Type 0 where
  pub whole : Fronts input ops []
  pub sound : All IsSound ops
  pub short : length input < pipe_limits.input

-- the bytes that the link answered
abbrev pub piece_of : Answer → Bytes
piece_of (answers.Piece bytes) = bytes
piece_of answers.Quiet = []
piece_of answers.Ended = []
piece_of answers.Failed = []

abbrev pub bytes_of : List Answer → Bytes
bytes_of said = flat_map piece_of said

-- the link told this input: a prefix of it, and all of it if it told its end; and it was not quiet as often in a row as a session allows
pub record Tells (input : Bytes) (said : List Answer) : Type 0 where
  pub front : IsFrontOf (bytes_of said) input
  pub whole : (before : List Answer) → said ≡ before ++ answers.Ended ∷ [] → bytes_of said ≡ input
  pub lively : (before after : List Answer) (quiets : ℕ) → quiets ≡ pipe_limits.quiet → said ≡ before ++ (replicate quiets answers.Quiet ++ after) → ⊥

-- ---- the volumes

-- its volume did not fail, and stands before its last generation
pub record IsUntroubled (place : PlaceIn) : Type 0 where
  pub going : place.stopped ≡ None
  pub generation : place.volume.generation < 2 ^ 62 - 1

abbrev pub AreUntroubled : World → Type 0
AreUntroubled world = All IsUntroubled world.places

-- nothing could be brought to a volume only because memory ran out
abbrev pub IsFlushed : Option (ℕ × PlaceFault) → Type 0
IsFlushed failed = IfSome failed (λ (f : ℕ × PlaceFault). flush_status f.1 ≡ 7)

-- ---- the room

-- its volume refused no room from the one to the other
abbrev pub IsUnrefused : PlaceIn → PlaceIn → Type 0
IsUnrefused old new = ¬ Rose old.volume.refusals new.volume.refusals

-- no log was outgrown in it
abbrev pub IsWithin : DeskEntry → Type 0
IsWithin (Routed call told) = Unit {0}
IsWithin (Looked joined call told) = Unit {0}
IsWithin (Turned after found) = Unit {0}
IsWithin (Resumed last) = Unit {0}
IsWithin (Held hold) = hold.outgrows ≡ false
IsWithin (Stirred at before after failed) = Unit {0}
IsWithin (Halted at state) = Unit {0}
IsWithin (Missed at kept) = Unit {0}
IsWithin (Spent number) = Unit {0}

abbrev pub AreWithin : List DeskEntry → Type 0
AreWithin [] = Unit {0}
AreWithin (entry ∷ more) = IsWithin entry × AreWithin more

-- no volume of the places refused room while these entries were made, and no log was outgrown
pub record HadRoom (opened : List PlaceIn) (entries : List DeskEntry) (after : List PlaceIn) : Type 0 where
  pub unrefused : AllZip IsUnrefused opened after
  pub within : AreWithin entries

-- ---- the stream

-- a making of the stream is refused by none of these places, unless a volume fails or there is no room
abbrev pub IsWelcome : List PlaceIn → Option NamedStream → Type 0
IsWelcome opened None = Unit {0}
IsWelcome opened (Some stream) = (error : ApiError) (clock_old clock_new : Option (List ℕ)) (after : Scene)
    → (making : IsMaking opened stream (Ok (Some error)) clock_old clock_new after) → AreUntroubled after.world → HadRoom opened making.entries after.world.places → ⊥

-- ---- nothing stands in the way

-- if the link was quiet last, the client was not stale
abbrev pub IsAlive : Journal → Type 0
IsAlive journal = (session moment : ℕ) (stage : Stage) (said : Bytes) → AreTurns pipe_limits (start pipe_limits session) journal.turns stage said
    → journal.last ≡ AtQuiet moment → is_stale stage.peer.pings moment ≡ false

abbrev pub IsQueue : Waiting → Type 0
IsQueue (Queue frames) = Unit {0}
IsQueue (Marked length) = ⊥

abbrev pub AreQueues : Router → Type 0
AreQueues router = (session : ℕ) → IfSome (session_of router session) (λ (s : Session). IsQueue s.waiting)

-- in no state on the way was a session marked, since more waited for it than may
abbrev pub IsUnmarked : Scene → List DeskEntry → Type 0
IsUnmarked scene entries = (before after : List DeskEntry) (mid : Scene) → entries ≡ before ++ after → Leads SoloStep scene before mid
    → AreQueues mid.world.router

-- a session over this input: its link told the input and did not fail, and it was closed neither for a stale client nor for a slow one
pub record IsCalmSession (input : Bytes) (scene : Scene) (journal : Journal) (faults : ℕ) : Type 0 where
  pub tells : Tells input (answers_of journal)
  pub alive : IsAlive journal
  pub unmarked : IsUnmarked scene (entries_of journal)
  pub unfailed : faults ≡ 0

-- a calm session; or the door gave out no link, did not fail, and was not quiet as often as a run allows
abbrev pub IsCalmWait : {scene after : Scene} {status : ℕ} {old new : DoorTold} {clock_old clock_new : Option (List ℕ)}
    → Bytes → Waits scene after status old new clock_old clock_new → Type 0
IsCalmWait {old = old} {new = new} input (inl none) = (Rose old.faults new.faults → ⊥) × (IsQuiet old.answered new.answered → ⊥)
IsCalmWait {scene = scene} input (inr link) = IsCalmSession input scene link.given_back.served.journal link.given_back.report.faults

abbrev pub IsCalmOver : {opened : List PlaceIn} {stream : Option NamedStream} {after : Scene} {status : ℕ} {old new : Outside}
    → Bytes → Attends opened stream after status old new → Type 0
IsCalmOver input (Unmade unmade) = Unit {0}
IsCalmOver input (Awaited awaited) = IsCalmWait input awaited.waits

-- ---- what it comes to

-- an operation that was carried out, if it is no tick
abbrev pub op_of : Act → List Op
op_of (Hears op) = op ∷ []
op_of Ticks = []

abbrev pub ops_of : List Act → List Op
ops_of acts = flat_map op_of acts

-- No volume failed in it, no place was found stopped, and there was room for what was asked, unless 65,533 messages or more counted against its place. So no
-- call is answered by errors 20011 and 20012, and by 20016 only for the messages.
abbrev pub IsUnbroken : DeskEntry → Type 0
IsUnbroken (Routed call told) = Unit {0}
IsUnbroken (Looked joined call told) = Unit {0}
IsUnbroken (Turned after found) = Unit {0}
IsUnbroken (Resumed last) = Unit {0}
IsUnbroken (Held hold) = (is_broken (entries_in hold) ≡ false) × (is_few hold.stored ≡ true → ¬ FindNoRoom hold.steps)
IsUnbroken (Stirred at before after failed) = failed ≡ false
IsUnbroken (Halted at state) = ⊥
IsUnbroken (Missed at kept) = Unit {0}
IsUnbroken (Spent number) = ⊥

abbrev pub AreUnbroken : List DeskEntry → Type 0
AreUnbroken [] = Unit {0}
AreUnbroken (entry ∷ more) = IsUnbroken entry × AreUnbroken more

-- each operation was carried out, in their order and by no place that failed or had no room, and the bytes are the server's information and what was said turn by
-- turn, for the operations and for the ticks
pub record IsAnswered (ops : List Op) (journal : Journal) (bytes : Bytes) : Type 0 where
  pub session : ℕ
  pub stage : Stage
  pub said : Bytes
  pub turns : AreTurns pipe_limits (start pipe_limits session) journal.turns stage said
  pub all : ops_of (acts_of (flat_map turn_spoken journal.turns)) ≡ ops
  pub unbroken : AreUnbroken (entries_of journal)
  pub written : bytes ≡ greeting pipe_limits session ++ said

-- if a link was given out, its session answered each of the operations
abbrev pub AreAnsweredAt : {scene after : Scene} {status : ℕ} {old new : DoorTold} {clock_old clock_new : Option (List ℕ)}
    → List Op → Waits scene after status old new clock_old clock_new → Type 0
AreAnsweredAt ops (inl none) = Unit {0}
AreAnsweredAt ops (inr link) = IsAnswered ops link.given_back.served.journal link.given_back.served.bytes

abbrev pub AreAnsweredOver : {opened : List PlaceIn} {stream : Option NamedStream} {after : Scene} {status : ℕ} {old new : Outside}
    → List Op → Attends opened stream after status old new → Type 0
AreAnsweredOver ops (Unmade unmade) = ⊥
AreAnsweredOver ops (Awaited awaited) = AreAnsweredAt ops awaited.waits

-- ---- the law of completeness

-- Of places of one kind, and the desks over them, as in `PipeEnds`:
module _ {V : Type 0} (Opens : List V → Solo V → Type 0) (Refuses : List V → HubFault V → Type 0) (Made : Solo V → List DeskEntry → Solo V → Type 0) (Closes : Solo V → Closed V → Type 0) where
  -- only want of memory can keep a desk from being opened on the volumes, if these come back
  abbrev pub MayOpen : List V → List V → Type 0
  MayOpen vols_old vols_new = (fault : HubFault V) → Refuses vols_old fault → vols_new ≡ vols_of fault → refused_status fault ≡ 7

  -- whatever places are opened on the volumes, they do not refuse the stream
  abbrev pub AreWelcoming : List V → Option NamedStream → Type 0
  AreWelcoming vols stream = (desk : Solo V) → Opens vols desk → IsWelcome desk.scene.world.places stream

  -- Each way in which it can have gone is calm, by all that was told: the status, what the door and the link answered, what the link was given, the
  -- moments that the clock told, and the volumes, which were untroubled as the desk was closed.
  abbrev pub IsCalm : Bytes → Option NamedStream → ℕ → List V → List V → Outside → Outside → Type 0
  IsCalm input stream status vols_old vols_new old new =
      (run : IsAttended Opens Refuses Made Closes stream status vols_old vols_new old new) → AreUntroubled run.after.scene.world → IsCalmOver input run.attended.attends

  module _ {stream : Option NamedStream} {status : ℕ} {vols_old vols_new : List V} {old new : Outside} where
    -- the volumes were untroubled as the desk was closed, there was room until then, and nothing could be brought to them only because memory ran out
    abbrev pub LeavesUntroubled : PipeEnds Opens Refuses Made Closes stream status vols_old vols_new old new → Type 0
    LeavesUntroubled (Starved run) = Unit {0}
    LeavesUntroubled (Unopened run) = Unit {0}
    LeavesUntroubled (Attended run) =
        AreUntroubled run.after.scene.world
        × HadRoom run.desk.scene.world.places
        (run_entries run.desk.scene.world.places stream run.after.scene run.outcome.status old (record new { sink = run.sink }) run.attended.attends)
        run.after.scene.world.places
        × IsFlushed run.closed.failed

    abbrev pub AreAnswered : List Op → PipeEnds Opens Refuses Made Closes stream status vols_old vols_new old new → Type 0
    AreAnswered ops (Starved run) = ⊥
    AreAnswered ops (Unopened run) = ⊥
    AreAnswered ops (Attended run) = AreAnsweredOver ops run.attended.attends

  -- A calm run over whole operations, on volumes that may be opened and do not refuse its stream, which had room and were untroubled at the closing, ends with
  -- status 0, and a link that was given out was answered each of them; or memory ran out.
  abbrev pub LawComplete : Type 0
  LawComplete = (stream : Option NamedStream) (status : ℕ) (vols_old vols_new : List V) (old new : Outside) (input : Bytes) (ops : List Op)
      → MayOpen vols_old vols_new → AreWelcoming vols_old stream → IsValid input ops → IsCalm input stream status vols_old vols_new old new
      → (run : PipeEnds Opens Refuses Made Closes stream status vols_old vols_new old new) → LeavesUntroubled run → ((status ≡ 0) × AreAnswered ops run) ⊎ (status ≡ 7)

-- places that never had a stream refuse none, if there is one
abbrev pub HasPlace : ℕ → Option NamedStream → Type 0
HasPlace count None = Unit {0}
HasPlace count (Some stream) = 0 < count

abbrev pub LawWelcome : Type 0
LawWelcome = (count : ℕ) (stream : Option NamedStream) → HasPlace count stream → IsWelcome (replicate count vacant_place) stream
