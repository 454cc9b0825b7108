-- What a link that had no failing before tells of its failings after a session: how often it failed, which is once at most, that it was not called
-- after that, and how the session ended then.
use Rattle.std.specs.Prelude.{◌≡◌, ◌⊎◌, Option, option_map, Result, Ok, Err}
use Rattle.link_edge.specs.Failings.{with_failed_give, with_starved_call}
use Rattle.link_edge.specs.declared.failings.Failings.{Failings}
use Rattle.session.specs.Giving.{end_of}
use Rattle.session.specs.Talk.{Last, Greeting, Nothing, Told, Within, Waiting}
use Rattle.session.specs.declared.ending.Ended.{Ended}
use Rattle.session.specs.declared.ending.Ended.TheVariants as ends
use Rattle.session.specs.declared.giving.GiveFault.{GiveFault}

-- The end of a session that no answer of the link ended. If it is known, no give failed but the one that ended it, and no call found no memory but
-- the one that ended it. It can also have ended so since it found no memory itself.
abbrev pub FailsBy : Ended → Option Failings → Option Failings → Type 0
FailsBy ends.Closed old new = new ≡ old
FailsBy (ends.Refused refusal) old new = new ≡ old
FailsBy (ends.Slow size) old new = new ≡ old
FailsBy ends.Stale old new = new ≡ old
FailsBy ends.LinkFault old new = new ≡ option_map with_failed_give old
FailsBy ends.InputLimit old new = new ≡ old
FailsBy ends.NoMemory old new = (new ≡ old) ⊎ (new ≡ option_map with_starved_call old)

-- how a session ended behind its whole turns: if it was by an answer of the link, that one stands in its journal, and nothing else failed
abbrev pub FailsAt : Last → Ended → Option Failings → Option Failings → Type 0
FailsAt Greeting ended old new = FailsBy ended old new
FailsAt Nothing ended old new = FailsBy ended old new
FailsAt (Told answer) ended old new = new ≡ old
FailsAt (Within turn begun calls) ended old new = FailsBy ended old new
FailsAt (Waiting moment) ended old new = FailsBy ended old new

-- while the session goes on, nothing failed
abbrev pub FailsIn : {T : Type 0} → Result T Ended → Option Failings → Option Failings → Type 0
FailsIn (Ok x) old new = new ≡ old
FailsIn (Err ended) old new = FailsBy ended old new

abbrev pub FailsGiving : {T : Type 0} → Result T GiveFault → Option Failings → Option Failings → Type 0
FailsGiving (Ok x) old new = new ≡ old
FailsGiving (Err fault) old new = FailsBy (end_of fault) old new
