-- What one turn of a session made of its desk, its link and its clock.
use Rattle.std.specs.Prelude.{◌≡◌, ℕ, ◌+◌, ◌-◌, ◌*◌, true, false, ◌⊎◌, List, [], ◌∷◌, Option, Result, Ok, Err, unwrap_or}
use Rattle.js_base.specs.Bytes.{Bytes}
use Rattle.js_base.specs.Framing.{frame}
use Rattle.js_base.specs.declared.frame.Frame.TheVariants.{Ping}
use Rattle.link_edge.specs.Told.{grown}
use Rattle.link_edge.specs.Moments.{ReadsMoment, ReadsMoments}
use Rattle.link_edge.specs.Failings.{HasNoFailings}
use Rattle.link_edge.specs.declared.answers.Answer.{Answer}
use Rattle.link_edge.specs.declared.failings.Failings.{Failings}
use Rattle.js_api.specs.Entries.{DeskEntry}
use Rattle.js_api.specs.Clients.{Client}
use Rattle.session.specs.Keeping.{is_ping_due, is_stale, pinged, ping_bytes}
use Rattle.session.specs.Talk.{Spoken, Stage, start, Turn, Last, Greeting, Nothing, Told, Within, Waiting, IsWhole, Ends, IsUnwritten, Waits, greeting, is_due, pinged_peer, entries_of_all, entries_of_turn, entries_of_last, last_answers, last_moments}
use Rattle.session.specs.Giving.{GivesPart}
use Rattle.session.specs.Failing.{FailsAt}
use Rattle.session.specs.Manners.{peer_of}
use Rattle.session.specs.Parting.{Parts}
use Rattle.session.specs.Ticking.{IsTickCut}
use Rattle.session.specs.declared.ending.Ended.{Ended}
use Rattle.session.specs.declared.ending.Ended.TheVariants as ends
use Rattle.session.specs.declared.ending.Limits.{Limits}
use Rattle.session.specs.declared.turn.Course.{Course}

-- where a session stands: what the desk knows of its client, and what it keeps itself
abbrev pub stage_of : Client → Course → Stage
stage_of client course = record {
  held = course.decoder.bytes;
  taken = course.taken;
  quiets = course.quiets;
  peer = peer_of client course.manners;
  came = course.came;
}

-- how many turns may follow at most: each takes a byte, or is one Quiet more in a row
abbrev pub turns_left : Limits → Course → ℕ
turns_left limits course = (limits.input - course.taken) * (limits.quiet + 1) + (limits.quiet - course.quiets)

-- ---- a quiet turn

-- the client is not stale, and a PING was given if one is due
pub record IsKept (came now : ℕ) (old new : List ℕ) (given_old given_new : Option Bytes) : Type 0 where
  pub alive : is_stale old now ≡ false
  pub pings : new ≡ pinged (is_ping_due came old now) old now
  pub given : given_new ≡ grown given_old (ping_bytes (is_ping_due came old now))

-- the client is stale, and the session parts from it
pub record IsGivenUp (ended : Ended) (now : ℕ) (old : List ℕ) (given_old given_new : Option Bytes) : Type 0 where
  pub stale : is_stale old now ≡ true
  pub parts : Parts ends.Stale ended given_old given_new []

-- a PING is due, and could not be given whole
pub record IsUnpinged (ended : Ended) (came now : ℕ) (old : List ℕ) (given_old given_new : Option Bytes) : Type 0 where
  pub alive : is_stale old now ≡ false
  pub due : is_ping_due came old now ≡ true
  pub unwritten : IsUnwritten ended
  pub given : GivesPart given_old given_new (frame Ping)

abbrev pub Keeps : {T : Type 0} → Result T Ended → ℕ → ℕ → List ℕ → List ℕ → Option Bytes → Option Bytes → Type 0
Keeps (Ok x) came now old new given_old given_new = IsKept came now old new given_old given_new
Keeps (Err ended) came now old new given_old given_new =
    IsGivenUp ended now old given_old given_new ⊎ IsUnpinged ended came now old given_old given_new

-- the client was kept, the tick was carried out, and its bytes were given
pub record IsRested {D : Type 0} (made : D → List DeskEntry → D → Type 0) (now : ℕ) (old new : Stage) (desk_old desk_new : D) (given_old given_new : Option Bytes) : Type 0 where
  pub spoken : List Spoken
  pub said : Bytes
  pub waits : Waits old now spoken new said
  pub led : made desk_old (entries_of_all spoken) desk_new
  pub given : given_new ≡ grown given_old said

-- the session ended before the tick
pub record IsUnkept {D : Type 0} (ended : Ended) (made : D → List DeskEntry → D → Type 0) (now : ℕ) (stage : Stage) (desk_old desk_new : D) (given_old given_new : Option Bytes) : Type 0 where
  pub led : made desk_old [] desk_new
  pub ends : IsGivenUp ended now stage.peer.pings given_old given_new ⊎ IsUnpinged ended (unwrap_or stage.came now) now stage.peer.pings given_old given_new

-- the client was kept, and the session ended within the tick or behind it
pub record IsUnticked {D : Type 0} (ended : Ended) (made : D → List DeskEntry → D → Type 0) (now : ℕ) (stage : Stage) (desk_old desk_new : D) (given_old given_new : Option Bytes) : Type 0 where
  pub alive : is_stale stage.peer.pings now ≡ false
  pub mid : Option Bytes
  pub pinged : mid ≡ grown given_old (ping_bytes (is_due stage now))
  pub cut : IsTickCut ended made (pinged_peer stage now) now desk_old desk_new [] mid given_new

abbrev pub Rests : {D T : Type 0} → Result T Ended → (D → List DeskEntry → D → Type 0) → ℕ → Stage → Stage → D → D → Option Bytes → Option Bytes → Type 0
Rests (Ok x) made now old new desk_old desk_new given_old given_new = IsRested made now old new desk_old desk_new given_old given_new
Rests (Err ended) made now old new desk_old desk_new given_old given_new =
    IsUnkept ended made now old desk_old desk_new given_old given_new ⊎ IsUnticked ended made now old desk_old desk_new given_old given_new

-- ---- any turn

-- a whole turn
pub record IsTurn {D : Type 0} (made : D → List DeskEntry → D → Type 0) (limits : Limits) (old new : Stage) (desk_old desk_new : D) (answered_old answered_new : Option (List Answer)) (given_old given_new : Option Bytes) (clock_old clock_new : Option (List ℕ)) (failings_old failings_new : Option Failings) : Type 0 where
  pub turn : Turn
  pub said : Bytes
  pub whole : IsWhole limits old turn new said
  pub answered : answered_new ≡ grown answered_old (turn.answer ∷ [])
  pub moment : ReadsMoment clock_old turn.moment clock_new
  pub led : made desk_old (entries_of_turn turn) desk_new
  pub given : given_new ≡ grown given_old said
  pub unfailing : HasNoFailings failings_old → failings_new ≡ failings_old

-- the session does not end within the server's information
abbrev pub IsGreeted : Last → Type 0
IsGreeted Greeting = ⊥
IsGreeted Nothing = Unit {0}
IsGreeted (Told answer) = Unit {0}
IsGreeted (Within turn begun calls) = Unit {0}
IsGreeted (Waiting moment) = Unit {0}

-- the turn in which the session ends
pub record IsLastTurn {D : Type 0} (made : D → List DeskEntry → D → Type 0) (limits : Limits) (session : ℕ) (ended : Ended) (stage : Stage) (desk_old desk_new : D) (answered_old answered_new : Option (List Answer)) (given_old given_new : Option Bytes) (clock_old clock_new : Option (List ℕ)) (failings_old failings_new : Option Failings) : Type 0 where
  pub last : Last
  pub more : Bytes
  pub greeted : IsGreeted last
  pub ends : Ends limits (start limits session) stage (greeting limits session) last ended more
  pub answered : answered_new ≡ grown answered_old (last_answers last)
  pub moments : ReadsMoments clock_old (last_moments last) clock_new
  pub led : made desk_old (entries_of_last last) desk_new
  pub given : given_new ≡ grown given_old more
  pub failings : HasNoFailings failings_old → FailsAt last ended failings_old failings_new

abbrev pub Turns : {D T : Type 0} → Result T Ended → (D → List DeskEntry → D → Type 0) → Limits → ℕ → Stage → Stage → D → D → Option (List Answer) → Option (List Answer) → Option Bytes → Option Bytes → Option (List ℕ) → Option (List ℕ) → Option Failings → Option Failings → Type 0
Turns (Ok x) made limits session old new desk_old desk_new answered_old answered_new given_old given_new clock_old clock_new failings_old failings_new =
    IsTurn made limits old new desk_old desk_new answered_old answered_new given_old given_new clock_old clock_new failings_old failings_new
Turns (Err ended) made limits session old new desk_old desk_new answered_old answered_new given_old given_new clock_old clock_new failings_old failings_new =
    IsLastTurn made limits session ended old desk_old desk_new answered_old answered_new given_old given_new clock_old clock_new failings_old failings_new
