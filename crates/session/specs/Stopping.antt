-- How a session ends for the answer of a desk call: it goes no further after that call.
use Rattle.std.specs.Prelude.{◌≡◌, Bool, true, false, List, [], ◌∷◌, ◌++◌, if◌then◌else◌, Result, Ok, Err}
use Rattle.js_base.specs.Bytes.{Bytes}
use Rattle.js_api.specs.declared.fault.DeskFault.{DeskFault}
use Rattle.js_api.specs.declared.fault.DeskFault.TheVariants as faults
use Rattle.js_api.specs.Clients.{Client}
use Rattle.js_api.specs.Answering.{DeskCall, DeskAnswer, Opened, Done, Took, Settled, Gave, Slow}
use Rattle.session.specs.Calling.{Called, IsMade}
use Rattle.session.specs.Gathering.{collected}
use Rattle.session.specs.Peer.{Request, Calls, IsRefused as Refuses}
use Rattle.session.specs.declared.ending.Ended.{Ended}
use Rattle.session.specs.declared.ending.Ended.TheVariants as ends
use Rattle.session.specs.declared.ending.Refusal.{Refusal}
use Rattle.session.specs.declared.ending.Refusal.TheVariants as refusals
use Rattle.session.specs.declared.stop.Stop.{Stop}
use Rattle.session.specs.declared.stop.Stop.TheVariants as stops

-- ---- the end

-- the end that a stop makes
abbrev pub cause_of : Stop → Ended
cause_of (stops.Refused refusal) = ends.Refused refusal
cause_of (stops.Slow size) = ends.Slow size
cause_of stops.NoMemory = ends.NoMemory

-- The end that a fault of the desk makes. TooManySubs is answered by an error line, and NoSession does not come while the session is open: after
-- these two a session ends only if memory ran out.
abbrev pub end_of_fault : DeskFault → Ended
end_of_fault faults.NoMemory = ends.NoMemory
end_of_fault faults.TooManySubs = ends.NoMemory
end_of_fault (faults.Worn number) = ends.Refused refusals.NumbersUsed
end_of_fault (faults.NoSession latest) = ends.NoMemory

-- the end of a session that goes no further after this answer: by its fault, as slow, or because memory ran out for what is said for it
abbrev pub end_after : Result DeskAnswer DeskFault → Ended
end_after (Ok (Opened session)) = ends.NoMemory
end_after (Ok Done) = ends.NoMemory
end_after (Ok (Took taken)) = ends.NoMemory
end_after (Ok (Settled ready)) = ends.NoMemory
end_after (Ok (Gave list more)) = ends.NoMemory
end_after (Ok (Slow length)) = ends.Slow length
end_after (Err fault) = end_of_fault fault

-- the session goes no further after this call, which makes its end
pub record IsLastCall (client : Client) (cause : Ended) (called : Called) : Type 0 where
  pub made : IsMade client called
  pub cause_is : cause ≡ end_after called.answer

-- ---- the own call

-- The session ends in the own call of an operation or a tick, or before it: the operation is refused, or memory ran out.
pub data IsOwnEnd (client : Client) (request : Request) (cause : Ended) (calls : List Called) : Type 0 where
  Declined : (refusal : Refusal) → request ≡ Refuses refusal → cause ≡ ends.Refused refusal → calls ≡ [] → IsOwnEnd client request cause calls
  Unasked : cause ≡ ends.NoMemory → calls ≡ [] → IsOwnEnd client request cause calls
  Asked : (called : Called) → request ≡ Calls called.call → IsLastCall client cause called → calls ≡ called ∷ [] → IsOwnEnd client request cause calls

-- and nothing was said for it
abbrev pub EndsInCall : Client → Request → Ended → List Called → Bytes → Type 0
EndsInCall client request cause calls said = IsOwnEnd client request cause calls × (said ≡ [])

-- ---- one after the other

-- Calls after each of which the session went on, and the last one, which may come behind them; and what the calls before it gave.
pub record IsCutBy (MayCome : List Called → DeskCall → Type 0) (client : Client) (cause : Ended) (calls : List Called) (said : Bytes) : Type 0 where
  pub before : List Called
  pub last : Called
  pub calls_are : calls ≡ before ++ last ∷ []
  pub comes : MayCome before last.call
  pub is_last : IsLastCall client cause last
  pub said_is : said ≡ collected before

-- ---- what is written

-- memory ran out, and then nothing more is written
abbrev pub is_starved : Ended → Bool
is_starved ends.Closed = false
is_starved (ends.Refused refusal) = false
is_starved (ends.Slow size) = false
is_starved ends.Stale = false
is_starved ends.LinkFault = false
is_starved ends.InputLimit = false
is_starved ends.NoMemory = true

-- what is still written of the bytes that were said last
abbrev pub still_written : Ended → Bytes → Bytes
still_written cause said = if is_starved cause then [] else said
