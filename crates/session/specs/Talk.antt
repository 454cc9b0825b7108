-- What a session says for what it hears: the turns of a connection, the operations in each and the tick that ends it, the desk calls of each of
-- them, and the bytes.
use Rattle.std.specs.Prelude.{◌≡◌, ℕ, ◌+◌, ◌<◌, ◌≤◌, Bool, true, false, ◌⊎◌, List, [], ◌∷◌, ◌++◌, length, map, Option, Some, None, unwrap_or, codes, Result, Ok, Err}
use Rattle.std.specs.List.{flat_map}
use Rattle.js_base.specs.Bytes.{Bytes}
use Rattle.js_base.specs.Framing.{frame}
use Rattle.js_base.specs.declared.frame.Frame.TheVariants.{Info}
use Rattle.link_edge.specs.declared.answers.Answer.{Answer}
use Rattle.link_edge.specs.declared.answers.Answer.TheVariants as answers
use Rattle.nats_frames.specs.declared.op.Op.{Op}
use Rattle.nats_frames.specs.declared.op.FrameFault.{FrameFault}
use Rattle.nats_frames.specs.declared.op.FrameFault.TheVariants as frame_faults
use Rattle.nats_frames.specs.Decoding.{IsRefused}
use Rattle.nats_frames.specs.Grammar.{Fronts}
use Rattle.nats_frames.specs.Reading.{op_at, Partial}
use Rattle.js_api.specs.declared.fault.DeskFault.{DeskFault}
use Rattle.js_api.specs.declared.fault.DeskFault.TheVariants as faults
use Rattle.js_api.specs.Entries.{DeskEntry}
use Rattle.js_api.specs.Clients.{Client, new_client}
use Rattle.js_api.specs.Answering.{DeskCall, Open, Options, Sub, Unsub, Publish, Tick, Settle, Collect, Close, DeskAnswer, Opened, Done, Took, Settled, Gave, Slow}
use Rattle.session.specs.Peer.{Act, Hears as Hearing, Ticks, Peer, new_peer, peer_after, Request, Calls, CallsNothing, IsWrong, IsUnpublishable, IsRefused as Refuses, request, error_line, unpublishable_bytes, called_bytes, uncalled_bytes}
use Rattle.session.specs.Calling.{Called, IsMade, entries_of_calls}
use Rattle.session.specs.Gathering.{AreGathered, IsGathering, collected}
use Rattle.session.specs.Stopping.{EndsInCall, IsCutBy, end_of_fault, still_written}
use Rattle.session.specs.Keeping.{is_ping_due, is_stale, pinged, ping_bytes}
use Rattle.session.specs.declared.ending.Limits.{Limits}
use Rattle.session.specs.declared.ending.Ended.{Ended}
use Rattle.session.specs.declared.ending.Ended.TheVariants as ends
use Rattle.session.specs.declared.ending.Refusal.{Refusal}
use Rattle.session.specs.declared.ending.Refusal.TheVariants as refusals

-- ---- the journal

-- an operation or a tick that was carried out: its one desk call or none, and the calls that gather what waits after it
pub record Spoken : Type 0 where
  pub act : Act
  pub calls : List Called
  pub gathered : List Called

-- one turn: what the link answered, the moment of it, and what was carried out: the operations whose last byte it brought, and the tick
pub record Turn : Type 0 where
  pub answer : Answer
  pub moment : ℕ
  pub spoken : List Spoken

-- how the turns end: within the server's information; with no further answer of the link; with one that ends them; within a turn, in which an
-- operation or the tick may have been begun, with these desk calls; or at a moment at which the link was quiet
pub data Last : Type 0 where
  Greeting : Last
  Nothing : Last
  Told : Answer → Last
  Within : (turn : Turn) (begun : List Act) (calls : List Called) → Last
  Waiting : (moment : ℕ) → Last

pub record Journal : Type 0 where
  pub opened : Called
  pub turns : List Turn
  pub last : Last
  pub closed : List Called

-- ---- an operation

-- a call that may find no room for one subscription more
abbrev pub IsSub : DeskCall → Type 0
IsSub Open = ⊥
IsSub (Options echo headers no_responders) = ⊥
IsSub (Sub subject queue sid) = Unit {0}
IsSub (Unsub sid max) = ⊥
IsSub (Publish message now) = ⊥
IsSub (Tick now) = ⊥
IsSub (Settle now) = ⊥
IsSub (Collect max) = ⊥
IsSub Close = ⊥

-- the session goes on after this answer of the call
abbrev pub IsAnswered : DeskCall → Result DeskAnswer DeskFault → Type 0
IsAnswered call (Ok answer) = Unit {0}
IsAnswered call (Err faults.NoMemory) = ⊥
IsAnswered call (Err faults.TooManySubs) = IsSub call
IsAnswered call (Err (faults.Worn number)) = ⊥
IsAnswered call (Err (faults.NoSession latest)) = ⊥

-- the one call of an operation or a tick, or none
abbrev pub AreAsked : Client → Request → List Called → Type 0
AreAsked client (Calls call) calls = (called : Called) × (calls ≡ called ∷ []) × (called.call ≡ call) × IsAnswered call called.answer × IsMade client called
AreAsked client CallsNothing calls = calls ≡ []
AreAsked client (IsWrong text) calls = calls ≡ []
AreAsked client IsUnpublishable calls = calls ≡ []
AreAsked client (Refuses refusal) calls = ⊥

abbrev pub all_called_bytes : Bool → List Called → Bytes
all_called_bytes verbose calls = flat_map (λ called. called_bytes verbose called.answer) calls

-- what is written for the operation itself: its error line, `PONG`, or `+OK`
abbrev pub op_answer : Peer → Request → Op → List Called → Bytes
op_answer peer (Calls call) op calls = all_called_bytes peer.verbose calls
op_answer peer CallsNothing op calls = uncalled_bytes op
op_answer peer (IsWrong text) op calls = error_line text
op_answer peer IsUnpublishable op calls = unpublishable_bytes peer.verbose peer.pedantic
op_answer peer (Refuses refusal) op calls = []

-- nothing is written for a tick
abbrev pub direct_answer : Peer → Request → Act → List Called → Bytes
direct_answer peer request (Hearing op) calls = op_answer peer request op calls
direct_answer peer request Ticks calls = []

-- ---- operations and ticks that were carried out

pub record IsSpoken (peer : Peer) (now : ℕ) (spoken : Spoken) : Type 0 where
  pub asked : AreAsked peer.client (request peer now spoken.act) spoken.calls
  pub gathered : AreGathered (peer_after peer spoken.act).client now spoken.gathered

abbrev pub AreSpoken : Peer → ℕ → List Spoken → Type 0
AreSpoken peer now [] = Unit {0}
AreSpoken peer now (spoken ∷ more) = IsSpoken peer now spoken × AreSpoken (peer_after peer spoken.act) now more

-- the bytes of an operation: its direct answer, and then what was gathered after it
abbrev pub spoken_bytes : Peer → ℕ → Spoken → Bytes
spoken_bytes peer now spoken =
    direct_answer (peer_after peer spoken.act) (request peer now spoken.act) spoken.act spoken.calls ++ collected spoken.gathered

-- the bytes of operations one after the other
abbrev pub heard_bytes : Peer → ℕ → List Spoken → Bytes
heard_bytes peer now [] = []
heard_bytes peer now (spoken ∷ more) = spoken_bytes peer now spoken ++ heard_bytes (peer_after peer spoken.act) now more

abbrev pub peer_at_end : Peer → List Spoken → Peer
peer_at_end peer [] = peer
peer_at_end peer (spoken ∷ more) = peer_at_end (peer_after peer spoken.act) more

abbrev pub acts_of : List Spoken → List Act
acts_of spoken = map (λ (s : Spoken). s.act) spoken

abbrev pub hearings : List Op → List Act
hearings ops = map Hearing ops

-- ---- turns

-- between two turns: the bytes that are held, how many were taken, how many Quiets came in a row, the client, and the moment at which
-- something came last, or of the first turn if nothing came yet
pub record Stage : Type 0 where
  pub held : Bytes
  pub taken : ℕ
  pub quiets : ℕ
  pub peer : Peer
  pub came : Option ℕ

abbrev pub start : Limits → ℕ → Stage
start limits session = record { held = []; taken = 0; quiets = 0; peer = new_peer limits.ticks session; came = None }

-- a piece was taken, the operations that are whole by then were carried out, and then the tick
pub record Hears (old : Stage) (moment : ℕ) (spoken : List Spoken) (bytes : Bytes) (new : Stage) (said : Bytes) : Type 0 where
  pub ops : List Op
  pub are_spoken : AreSpoken old.peer moment spoken
  pub acts : acts_of spoken ≡ hearings ops ++ Ticks ∷ []
  pub split : Fronts (old.held ++ bytes) ops new.held
  pub idle : op_at new.held ≡ Partial
  pub taken : new.taken ≡ old.taken + length bytes
  pub quiets : new.quiets ≡ 0
  pub peer : new.peer ≡ peer_at_end old.peer spoken
  pub came : new.came ≡ Some moment
  pub said_is : said ≡ heard_bytes old.peer moment spoken

abbrev pub is_due : Stage → ℕ → Bool
is_due stage moment = is_ping_due (unwrap_or stage.came moment) stage.peer.pings moment

-- the client after a quiet turn: a PING more is not answered if one was due
abbrev pub pinged_peer : Stage → ℕ → Peer
pinged_peer stage moment = record stage.peer { pings = pinged (is_due stage moment) stage.peer.pings moment }

abbrev pub after_quiet : Stage → ℕ → Stage
after_quiet stage moment = record stage {
  quiets = stage.quiets + 1;
  peer = pinged_peer stage moment;
  came = Some (unwrap_or stage.came moment);
}

-- nothing came, and a PING was written if one is due, and then the tick was carried out
pub record Waits (old : Stage) (moment : ℕ) (spoken : List Spoken) (new : Stage) (said : Bytes) : Type 0 where
  pub alive : is_stale old.peer.pings moment ≡ false
  pub are_spoken : AreSpoken (pinged_peer old moment) moment spoken
  pub acts : acts_of spoken ≡ Ticks ∷ []
  pub after : new ≡ after_quiet old moment
  pub said_is : said ≡ ping_bytes (is_due old moment) ++ heard_bytes (pinged_peer old moment) moment spoken

abbrev pub Goes : Stage → Turn → Answer → Stage → Bytes → Type 0
Goes old turn (answers.Piece bytes) new said = Hears old turn.moment turn.spoken bytes new said
Goes old turn answers.Quiet new said = Waits old turn.moment turn.spoken new said
Goes old turn answers.Ended new said = ⊥
Goes old turn answers.Failed new said = ⊥

-- fewer bytes were taken than may be, and fewer Quiets came in a row
pub record IsUnspent (limits : Limits) (stage : Stage) : Type 0 where
  pub input : stage.taken < limits.input
  pub quiet : stage.quiets < limits.quiet

-- just so many were taken, or just so many came in a row
abbrev pub IsSpent : Limits → Stage → Type 0
IsSpent limits stage = (stage.taken ≡ limits.input) ⊎ (stage.quiets ≡ limits.quiet)

-- a whole turn: it begins within the limits, and takes no more than may be
pub record IsWhole (limits : Limits) (old : Stage) (turn : Turn) (new : Stage) (said : Bytes) : Type 0 where
  pub unspent : IsUnspent limits old
  pub goes : Goes old turn turn.answer new said
  pub fits : new.taken ≤ limits.input

-- whole turns, one after the other, and the bytes that they said
abbrev pub AreTurns : Limits → Stage → List Turn → Stage → Bytes → Type 0
AreTurns limits old [] new said = (old ≡ new) × (said ≡ [])
AreTurns limits old (turn ∷ more) new said =
    (mid : Stage) × (first rest : Bytes) × IsWhole limits old turn mid first × AreTurns limits mid more new rest × (said ≡ first ++ rest)

-- ---- a turn that is not whole

-- The session ends within an operation or a tick by this cause: in its own call or before that, or as what waits after it is gathered. These
-- are its calls, and this is what is still written of what was said for it.
pub data IsStopped (peer : Peer) (now : ℕ) (act : Act) (cause : Ended) (calls : List Called) (said : Bytes) : Type 0 where
  InCall : EndsInCall peer.client (request peer now act) cause calls said → IsStopped peer now act cause calls said
  InGathering : (asked after : List Called) (more : Bytes) → calls ≡ asked ++ after → AreAsked peer.client (request peer now act) asked
      → IsCutBy (IsGathering (peer_after peer act).client now) (peer_after peer act).client cause after more
      → said ≡ still_written cause (direct_answer (peer_after peer act) (request peer now act) act asked ++ more)
      → IsStopped peer now act cause calls said

-- the operations with which the bytes begin, and after all that are whole the tick
pub record AreActs (bytes : Bytes) (acts : List Act) (rest : Bytes) : Type 0 where
  pub ops : List Op
  pub split : Fronts bytes ops rest
  pub acts_are : (acts ≡ hearings ops) ⊎ ((acts ≡ hearings ops ++ Ticks ∷ []) × (op_at rest ≡ Partial))

-- what a turn begins with: a piece that was taken; or nothing, and then the client is not stale
abbrev pub Begins : Limits → Stage → Turn → List Act → Bytes → ℕ → Answer → Type 0
Begins limits stage turn acts rest taken (answers.Piece bytes) =
    AreActs (stage.held ++ bytes) acts rest × (taken ≡ stage.taken + length bytes) × (stage.taken + length bytes ≤ limits.input)
Begins limits stage turn acts rest taken answers.Quiet =
    (rest ≡ stage.held) × (taken ≡ stage.taken) × (is_stale stage.peer.pings turn.moment ≡ false) × ((acts ≡ []) ⊎ (acts ≡ Ticks ∷ []))
Begins limits stage turn acts rest taken answers.Ended = ⊥
Begins limits stage turn acts rest taken answers.Failed = ⊥

-- the client as a turn finds it
abbrev pub peer_before : Stage → Answer → ℕ → Peer
peer_before stage answers.Quiet moment = pinged_peer stage moment
peer_before stage (answers.Piece bytes) moment = stage.peer
peer_before stage answers.Ended moment = stage.peer
peer_before stage answers.Failed moment = stage.peer

-- what a turn says before its operations: in a quiet one a PING, if one is due
abbrev pub said_before : Stage → Answer → ℕ → Bytes
said_before stage answers.Quiet moment = ping_bytes (is_due stage moment)
said_before stage (answers.Piece bytes) moment = []
said_before stage answers.Ended moment = []
said_before stage answers.Failed moment = []

-- these operations and ticks of a turn were carried out, one may have been begun, and this is the rest of so many bytes that were taken
pub record IsWithin (limits : Limits) (stage : Stage) (turn : Turn) (begun : List Act) (rest : Bytes) (taken : ℕ) : Type 0 where
  pub unspent : IsUnspent limits stage
  pub are_spoken : AreSpoken (peer_before stage turn.answer turn.moment) turn.moment turn.spoken
  pub begins : Begins limits stage turn (acts_of turn.spoken ++ begun) rest taken turn.answer

abbrev pub heard_in : Stage → Turn → Bytes
heard_in stage turn =
    said_before stage turn.answer turn.moment ++ heard_bytes (peer_before stage turn.answer turn.moment) turn.moment turn.spoken

abbrev pub peer_in : Stage → Turn → Peer
peer_in stage turn = peer_at_end (peer_before stage turn.answer turn.moment) turn.spoken

-- behind the operations that were carried out stands no operation, but a fault: its place is counted from the start of the input
pub record EndsWithFault (limits : Limits) (stage : Stage) (fault : FrameFault) (last : Last) (said : Bytes) : Type 0 where
  pub turn : Turn
  pub rest : Bytes
  pub taken : ℕ
  pub before : ℕ
  pub last_is : last ≡ Within turn [] []
  pub within : IsWithin limits stage turn [] rest taken
  pub place : before + length rest ≡ taken
  pub refused : IsRefused fault before rest
  pub said_is : said ≡ heard_in stage turn

-- the session stops within an operation or a tick
pub record EndsStopped (limits : Limits) (stage : Stage) (cause : Ended) (last : Last) (said : Bytes) : Type 0 where
  pub turn : Turn
  pub act : Act
  pub calls : List Called
  pub rest : Bytes
  pub taken : ℕ
  pub more : Bytes
  pub last_is : last ≡ Within turn (act ∷ []) calls
  pub within : IsWithin limits stage turn (act ∷ []) rest taken
  pub stopped : IsStopped (peer_in stage turn) turn.moment act cause calls more
  pub said_is : said ≡ heard_in stage turn ++ more

-- behind operations that were carried out, or behind the tick
pub record EndsBetween (limits : Limits) (stage : Stage) (last : Last) (said : Bytes) : Type 0 where
  pub turn : Turn
  pub rest : Bytes
  pub taken : ℕ
  pub last_is : last ≡ Within turn [] []
  pub within : IsWithin limits stage turn [] rest taken
  pub said_is : said ≡ heard_in stage turn

-- in a quiet turn, at a moment at which the client is stale
pub record EndsStale (limits : Limits) (stage : Stage) (last : Last) (said : Bytes) : Type 0 where
  pub moment : ℕ
  pub last_is : last ≡ Waiting moment
  pub unspent : IsUnspent limits stage
  pub stale : is_stale stage.peer.pings moment ≡ true
  pub said_is : said ≡ []

-- in a quiet turn, in which a PING is due
pub record EndsPinging (limits : Limits) (stage : Stage) (last : Last) (said : Bytes) : Type 0 where
  pub moment : ℕ
  pub last_is : last ≡ Waiting moment
  pub unspent : IsUnspent limits stage
  pub alive : is_stale stage.peer.pings moment ≡ false
  pub due : is_due stage moment ≡ true
  pub said_is : said ≡ ping_bytes true

-- in the server's information, before the first turn
pub record EndsGreeting (stage first : Stage) (last : Last) (said greeting : Bytes) : Type 0 where
  pub last_is : last ≡ Greeting
  pub first_is : stage ≡ first
  pub said_is : said ≡ greeting

-- with no further answer of the link, or with this one
pub record EndsTold (last is : Last) (said : Bytes) : Type 0 where
  pub last_is : last ≡ is
  pub said_is : said ≡ []

-- ---- the end

-- the cause of each end, in the order of the session's course, and what the last turn said before it
abbrev pub IsCause : Limits → Stage → Stage → Bytes → Ended → Last → Bytes → Type 0
IsCause limits first stage greeting ends.Closed last said = IsUnspent limits stage × EndsTold last (Told answers.Ended) said
IsCause limits first stage greeting (ends.Refused (refusals.Frame fault)) last said = EndsWithFault limits stage fault last said
IsCause limits first stage greeting (ends.Refused refusals.BadConnect) last said = EndsStopped limits stage (ends.Refused refusals.BadConnect) last said
IsCause limits first stage greeting (ends.Refused refusals.BadHeaders) last said = EndsStopped limits stage (ends.Refused refusals.BadHeaders) last said
IsCause limits first stage greeting (ends.Refused refusals.NumbersUsed) last said = EndsStopped limits stage (ends.Refused refusals.NumbersUsed) last said
IsCause limits first stage greeting (ends.Slow size) last said = EndsStopped limits stage (ends.Slow size) last said
IsCause limits first stage greeting ends.Stale last said = EndsStale limits stage last said
IsCause limits first stage greeting ends.LinkFault last said =
    (IsUnspent limits stage × EndsTold last (Told answers.Failed) said) ⊎ (EndsGreeting stage first last said greeting
    ⊎ (EndsBetween limits stage last said ⊎ EndsPinging limits stage last said))
IsCause limits first stage greeting ends.InputLimit last said = IsSpent limits stage × EndsTold last Nothing said
IsCause limits first stage greeting ends.NoMemory last said =
    EndsTold last Nothing said ⊎ (EndsGreeting stage first last said greeting
    ⊎ (EndsBetween limits stage last said ⊎ (EndsStopped limits stage ends.NoMemory last said ⊎ EndsPinging limits stage last said)))

-- the text of the error line of a fault of the input
abbrev pub fault_text : FrameFault → Option Bytes
fault_text frame_faults.UnknownOp = Some (codes "Unknown Protocol Operation")
fault_text frame_faults.LineTooLong = Some (codes "Maximum Control Line Exceeded")
fault_text frame_faults.BadArgs = Some (codes "Parser Error")
fault_text (frame_faults.PayloadTooBig size) = Some (codes "Maximum Payload Violation")
fault_text (frame_faults.BadEnd place) = Some (codes "Parser Error")
fault_text frame_faults.NoMemory = None

abbrev pub refusal_text : Refusal → Option Bytes
refusal_text (refusals.Frame fault) = fault_text fault
refusal_text refusals.BadConnect = Some (codes "Parser Error")
refusal_text refusals.BadHeaders = Some (codes "Parser Error")
refusal_text refusals.NumbersUsed = None

-- the text of the error line with which a session ends so. A slow client gets none, as of the NATS server, and so connects again
abbrev pub last_text : Ended → Option Bytes
last_text ends.Closed = None
last_text (ends.Refused refusal) = refusal_text refusal
last_text (ends.Slow size) = None
last_text ends.Stale = Some (codes "Stale Connection")
last_text ends.LinkFault = None
last_text ends.InputLimit = None
last_text ends.NoMemory = None

abbrev pub line_of : Option Bytes → Bytes
line_of None = []
line_of (Some text) = error_line text

abbrev pub last_line : Ended → Bytes
last_line ended = line_of (last_text ended)

-- an end at which all that waits is written, and then its error line, if it has one
abbrev pub is_parting : Ended → Bool
is_parting ends.Closed = false
is_parting (ends.Refused refusal) = true
is_parting (ends.Slow size) = true
is_parting ends.Stale = true
is_parting ends.LinkFault = false
is_parting ends.InputLimit = false
is_parting ends.NoMemory = false

-- the writing failed, or memory ran out for it
abbrev pub IsUnwritten : Ended → Type 0
IsUnwritten ended = (ended ≡ ends.LinkFault) ⊎ (ended ≡ ends.NoMemory)

abbrev pub IsFrontOf : Bytes → Bytes → Type 0
IsFrontOf front whole = (more : Bytes) × (front ++ more ≡ whole)

-- a prefix of the bytes that lacks one of them or more
abbrev pub IsCutOff : Bytes → Bytes → Type 0
IsCutOff front whole = (next : ℕ) × (more : Bytes) × (front ++ next ∷ more ≡ whole)

-- all of it was written; if a writing failed, a prefix that lacks something; if memory ran out, a prefix
abbrev pub IsWritten : Ended → Bytes → Bytes → Type 0
IsWritten ends.Closed bytes whole = bytes ≡ whole
IsWritten (ends.Refused refusal) bytes whole = bytes ≡ whole
IsWritten (ends.Slow size) bytes whole = bytes ≡ whole
IsWritten ends.Stale bytes whole = bytes ≡ whole
IsWritten ends.LinkFault bytes whole = IsCutOff bytes whole
IsWritten ends.InputLimit bytes whole = bytes ≡ whole
IsWritten ends.NoMemory bytes whole = IsFrontOf bytes whole

-- the session ends by its cause; but if what waits and the cause's error line could not be written whole, by that
abbrev pub EndsBy : Ended → Ended → Bytes → Bytes → Type 0
EndsBy cause ended bytes whole = ((ended ≡ cause) × IsWritten ended bytes whole) ⊎ ((is_parting cause ≡ true) × IsUnwritten ended × IsCutOff bytes whole)

-- if an answer of the link is the end, nothing is left to write, and no writing fails
abbrev pub EndsAs : Last → Ended → Ended → Bytes → Bytes → Type 0
EndsAs (Told answer) cause ended bytes whole = (ended ≡ cause) × (bytes ≡ whole)
EndsAs Greeting cause ended bytes whole = EndsBy cause ended bytes whole
EndsAs Nothing cause ended bytes whole = EndsBy cause ended bytes whole
EndsAs (Within turn begun calls) cause ended bytes whole = EndsBy cause ended bytes whole
EndsAs (Waiting moment) cause ended bytes whole = EndsBy cause ended bytes whole

-- how a session ends behind its whole turns: its cause, what is said in the last turn, and the error line; and which bytes were written of it.
-- All that the turns before said was written before the link was asked again
pub record Ends (limits : Limits) (first stage : Stage) (greeting : Bytes) (last : Last) (ended : Ended) (bytes : Bytes) : Type 0 where
  pub cause : Ended
  pub said : Bytes
  pub is_cause : IsCause limits first stage greeting cause last said
  pub ends_as : EndsAs last cause ended bytes (said ++ last_line cause)

-- ---- the whole

abbrev pub turn_spoken : Turn → List Spoken
turn_spoken turn = turn.spoken

abbrev pub entries_of_spoken : Spoken → List DeskEntry
entries_of_spoken spoken = entries_of_calls spoken.calls ++ entries_of_calls spoken.gathered

abbrev pub entries_of_all : List Spoken → List DeskEntry
entries_of_all spoken = flat_map entries_of_spoken spoken

abbrev pub entries_of_turn : Turn → List DeskEntry
entries_of_turn turn = entries_of_all turn.spoken

abbrev pub entries_of_last : Last → List DeskEntry
entries_of_last Greeting = []
entries_of_last Nothing = []
entries_of_last (Told answer) = []
entries_of_last (Within turn begun calls) = entries_of_turn turn ++ entries_of_calls calls
entries_of_last (Waiting moment) = []

-- the entries of all desk calls, in order
abbrev pub entries_of : Journal → List DeskEntry
entries_of journal = journal.opened.entries ++ (flat_map entries_of_turn journal.turns ++ (entries_of_last journal.last ++ entries_of_calls journal.closed))

abbrev pub last_answers : Last → List Answer
last_answers Greeting = []
last_answers Nothing = []
last_answers (Told answer) = answer ∷ []
last_answers (Within turn begun calls) = turn.answer ∷ []
last_answers (Waiting moment) = answers.Quiet ∷ []

-- what the link answered
abbrev pub answers_of : Journal → List Answer
answers_of journal = map (λ (turn : Turn). turn.answer) journal.turns ++ last_answers journal.last

abbrev pub last_moments : Last → List ℕ
last_moments Greeting = []
last_moments Nothing = []
last_moments (Told answer) = []
last_moments (Within turn begun calls) = turn.moment ∷ []
last_moments (Waiting moment) = moment ∷ []

-- the moments that were read: one a turn, after the link's answer
abbrev pub moments_of : Journal → List ℕ
moments_of journal = map (λ (turn : Turn). turn.moment) journal.turns ++ last_moments journal.last

-- the server's information, with which each session begins
unfoldable pub greeting : Limits → ℕ → Bytes
greeting limits session = frame (Info session limits.host limits.port)

-- the greeting, and what the turns said; but if the greeting itself was not written whole, nothing before it
abbrev pub before_last : Bytes → Last → Bytes → Bytes
before_last greeting Greeting said = []
before_last greeting Nothing said = greeting ++ said
before_last greeting (Told answer) said = greeting ++ said
before_last greeting (Within turn begun calls) said = greeting ++ said
before_last greeting (Waiting moment) said = greeting ++ said

-- The closing takes no memory. If the numbers of turns are used up, the session is closed in the desk, and the router keeps it.
abbrev pub IsClosing : Result DeskAnswer DeskFault → Type 0
IsClosing (Ok answer) = Unit {0}
IsClosing (Err faults.NoMemory) = ⊥
IsClosing (Err faults.TooManySubs) = ⊥
IsClosing (Err (faults.Worn number)) = Unit {0}
IsClosing (Err (faults.NoSession latest)) = ⊥

abbrev pub IsClosedBy : Client → List Called → Type 0
IsClosedBy client calls = (called : Called) × (calls ≡ called ∷ []) × (called.call ≡ Close) × IsClosing called.answer × IsMade client called

-- a session that was opened
pub record IsTalk (limits : Limits) (session : ℕ) (journal : Journal) (bytes : Bytes) (ended : Ended) : Type 0 where
  pub stage : Stage
  pub said : Bytes
  pub more : Bytes
  pub turns : AreTurns limits (start limits session) journal.turns stage said
  pub ends : Ends limits (start limits session) stage (greeting limits session) journal.last ended more
  pub closed : IsClosedBy (new_client session) journal.closed
  pub written : bytes ≡ before_last (greeting limits session) journal.last said ++ more

-- a session that was not
pub record IsSilent (journal : Journal) (bytes : Bytes) : Type 0 where
  pub turns : journal.turns ≡ []
  pub last : journal.last ≡ Nothing
  pub closed : journal.closed ≡ []
  pub bytes_are : bytes ≡ []

-- the answer to the opening decides: a session that was opened goes its course, and a fault is the end
abbrev pub TalksBy : Result DeskAnswer DeskFault → Limits → Journal → Bytes → Ended → Type 0
TalksBy (Ok (Opened session)) limits journal bytes ended = IsMade (new_client session) journal.opened × IsTalk limits session journal bytes ended
TalksBy (Ok Done) limits journal bytes ended = ⊥
TalksBy (Ok (Took taken)) limits journal bytes ended = ⊥
TalksBy (Ok (Settled ready)) limits journal bytes ended = ⊥
TalksBy (Ok (Gave list more)) limits journal bytes ended = ⊥
TalksBy (Ok (Slow length)) limits journal bytes ended = ⊥
TalksBy (Err fault) limits journal bytes ended = IsMade (new_client 0) journal.opened × IsSilent journal bytes × (ended ≡ end_of_fault fault)

-- the journal is that of a session which wrote these bytes and ended so
pub record Talk (limits : Limits) (journal : Journal) (bytes : Bytes) (ended : Ended) : Type 0 where
  pub opened : journal.opened.call ≡ Open
  pub talks : TalksBy journal.opened.answer limits journal bytes ended
