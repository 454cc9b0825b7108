-- What a run does over its desk: it makes a stream, waits for a link, and serves it.
use Rattle.std.specs.Prelude.{◌≡◌, ℕ, ◌+◌, Bool, true, false, ◌⊎◌, List, [], ◌∷◌, Option, Some, None, IfSome, codes, option_map, Result, Ok, Err}
use mathlib.Core.Logic.{inl, inr}
use Rattle.js_base.specs.Bytes.{Bytes}
use Rattle.js_base.specs.Causes.{Rose}
use Rattle.js_base.specs.declared.out.ApiError.{ApiError}
use Rattle.js_model.specs.PlaceStates.{PlaceIn}
use Rattle.link_edge.specs.Told.{grown}
use Rattle.link_edge.specs.Moments.{ReadsMoments}
use Rattle.link_edge.specs.Failings.{no_failings}
use Rattle.link_edge.specs.Reports.{Report, HasOut}
use Rattle.link_edge.specs.declared.answers.Accepted.TheVariants as accepted
use Rattle.js_api.specs.declared.fault.DeskFault.{DeskFault}
use Rattle.js_api.specs.Leading.{Leads}
use Rattle.js_api.specs.Worlds.{Scene, SoloStep}
use Rattle.session.specs.Failing.{FailsAt}
use Rattle.session.specs.Stopping.{end_of_fault}
use Rattle.session.specs.Talk.{Journal, Talk, entries_of, answers_of, moments_of}
use Rattle.session.specs.declared.ending.Limits.{Limits}
use Rattle.session.specs.declared.ending.Ended.{Ended}
use Rattle.session.specs.declared.ending.Ended.TheVariants as ends
use Rattle.server.specs.declared.words.NamedStream.{NamedStream}
use Rattle.server.specs.Outside.{DoorTold, SinkTold, Outside, Prints}
use Rattle.server.specs.Lines.{number_line}
use Rattle.server.specs.Accepting.{IsAccepted, IsQuiet, NoneStarves, OneStarves}
use Rattle.server.specs.Preparing.{Prepares}

-- a gigabyte of input, and a million takes in a row that are quiet; and the session lets time pass itself, behind each turn
abbrev pub pipe_limits : Limits
pipe_limits = record { input = 1073741824; quiet = 1000000; host = codes "pipe"; port = 0; ticks = true }

abbrev pub status_of : Ended → ℕ
status_of ends.Closed = 0
status_of (ends.Refused refusal) = 10
status_of (ends.Slow size) = 10
status_of ends.Stale = 10
status_of ends.LinkFault = 3
status_of ends.InputLimit = 6
status_of ends.NoMemory = 7

-- ---- the session

-- A link with this report was served over a desk in this scene: it was given the bytes of a talk over just what it answered and the moments that
-- the clock told, and the talk's entries led the desk on. The status tells how the talk ended. One give failed at most, or one call of the link
-- found no memory at most; then the talk ended so, and no call of the link came after that one.
pub record IsServed (limits : Limits) (scene after : Scene) (status : ℕ) (report : Report) (clock_old clock_new : Option (List ℕ)) : Type 0 where
  pub journal : Journal
  pub bytes : Bytes
  pub ended : Ended
  pub talk : Talk limits journal bytes ended
  pub led : Leads SoloStep scene (entries_of journal) after
  pub answered : IfSome report.answered (λ answers. answers ≡ answers_of journal)
  pub given : IfSome report.given (λ given. given ≡ bytes)
  pub failings : IfSome report.failings (λ failings. FailsAt journal.last ended (Some no_failings) (Some failings))
  pub moments : ReadsMoments clock_old (moments_of journal) clock_new
  pub status_is : status ≡ status_of ended
  pub cause : status ≡ 3 → Rose 0 report.faults

-- A link was served over the desk, and came back with its report, which is told if by then more links were given out than came back.
pub record IsGivenBack (limits : Limits) (scene after : Scene) (status : ℕ) (gave : Option ℕ) (old new : Option (List Report)) (clock_old clock_new : Option (List ℕ)) : Type 0 where
  pub report : Report
  pub back : HasOut gave old → new ≡ grown old (report ∷ [])
  pub served : IsServed limits scene after status report clock_old clock_new

-- ---- the door

-- why no link was served: the door was closed, it failed, it was quiet a million times, the last accept found no memory, or memory ran out before
-- the door was asked
pub data IsUnserved (status : ℕ) (old new : DoorTold) : Type 0 where
  WasClosed : status ≡ 0 → IsAccepted old.answered new.answered (accepted.Closed ∷ []) → NoneStarves old.starved new.starved → IsUnserved status old new
  HasFailed : status ≡ 8 → Rose old.faults new.faults → IsAccepted old.answered new.answered (accepted.Failed ∷ []) → NoneStarves old.starved new.starved → IsUnserved status old new
  WasQuiet : status ≡ 6 → IsQuiet old.answered new.answered → NoneStarves old.starved new.starved → IsUnserved status old new
  HasStarved : status ≡ 7 → IsAccepted old.answered new.answered [] → OneStarves old.starved new.starved → IsUnserved status old new
  WasUnasked : status ≡ 7 → new.answered ≡ old.answered → new.starved ≡ old.starved → IsUnserved status old new

-- no link was given out, the desk is as it was, and the clock was not read
pub record NoLink (scene after : Scene) (status : ℕ) (old new : DoorTold) (clock_old clock_new : Option (List ℕ)) : Type 0 where
  pub gave : new.gave ≡ old.gave
  pub back : new.back ≡ old.back
  pub unserved : IsUnserved status old new
  pub idle : after ≡ scene
  pub unread : clock_new ≡ clock_old

-- a link was given out at the first answer that was not quiet, and it was served over a desk in this scene
pub record IsLinkServed (scene after : Scene) (status : ℕ) (old new : DoorTold) (clock_old clock_new : Option (List ℕ)) : Type 0 where
  pub accepts : IsAccepted old.answered new.answered (accepted.Got ∷ [])
  pub starved : NoneStarves old.starved new.starved
  pub gave : new.gave ≡ option_map (λ n. n + 1) old.gave
  pub given_back : IsGivenBack pipe_limits scene after status new.gave old.back new.back clock_old clock_new

-- how the door was waited at, and what of the desk is left by that
abbrev pub Waits : Scene → Scene → ℕ → DoorTold → DoorTold → Option (List ℕ) → Option (List ℕ) → Type 0
Waits scene after status old new clock_old clock_new =
    NoLink scene after status old new clock_old clock_new ⊎ IsLinkServed scene after status old new clock_old clock_new

abbrev pub is_link_served : {scene after : Scene} {status : ℕ} {old new : DoorTold} {clock_old clock_new : Option (List ℕ)}
    → Waits scene after status old new clock_old clock_new → Bool
is_link_served (inl none) = false
is_link_served (inr link) = true

-- ---- over a desk that was opened

-- the stream was refused, and the number of the error was printed; or its making ended by a fault of the desk
abbrev pub Unmakes : Result (Option ApiError) DeskFault → ℕ → SinkTold → SinkTold → Type 0
Unmakes (Ok None) status old new = ⊥
Unmakes (Ok (Some error)) status old new = (status ≡ 11) × Prints (number_line error.err_code) old new
Unmakes (Err fault) status old new = status ≡ status_of (end_of_fault fault)

-- the stream was not made, and the door was not asked
pub record IsUnmade (opened : List PlaceIn) (stream : Option NamedStream) (after : Scene) (status : ℕ) (old new : Outside) : Type 0 where
  pub result : Result (Option ApiError) DeskFault
  pub prepared : Prepares opened stream result old.clock new.clock after
  pub unmade : Unmakes result status old.sink new.sink
  pub door : new.door ≡ old.door

-- a link was waited for over the desk in which the stream stands
pub record IsAwaited (opened : List PlaceIn) (stream : Option NamedStream) (after : Scene) (status : ℕ) (old new : Outside) : Type 0 where
  pub scene : Scene
  pub rest : Option (List ℕ)
  pub prepared : Prepares opened stream (Ok None) old.clock rest scene
  pub waits : Waits scene after status old.door new.door rest new.clock

-- what was done over the desk from its opening on, with this status, and this is the desk after it
pub data Attends (opened : List PlaceIn) (stream : Option NamedStream) (after : Scene) (status : ℕ) (old new : Outside) : Type 0 where
  Unmade : IsUnmade opened stream after status old new → Attends opened stream after status old new
  Awaited : IsAwaited opened stream after status old new → Attends opened stream after status old new

-- a session was served
abbrev pub is_session : {opened : List PlaceIn} {stream : Option NamedStream} {after : Scene} {status : ℕ} {old new : Outside} → Attends opened stream after status old new → Bool
is_session (Unmade unmade) = false
is_session (Awaited awaited) = is_link_served awaited.waits
