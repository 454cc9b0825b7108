-- How a session parts from its client: what was written before, and the error line of its end.
use Rattle.std.specs.Prelude.{◌≡◌, ◌++◌, Option}
use Rattle.js_base.specs.Bytes.{Bytes}
use Rattle.link_edge.specs.Told.{grown}
use Rattle.session.specs.Stopping.{cause_of}
use Rattle.session.specs.Talk.{EndsBy, last_line}
use Rattle.session.specs.declared.ending.Ended.{Ended}
use Rattle.session.specs.declared.ending.Ended.TheVariants as ends
use Rattle.session.specs.declared.stop.Stop.{Stop}
use Rattle.session.specs.declared.stop.Stop.TheVariants.{Refused, Slow, NoMemory}

-- the bytes and the error line of the cause were given, or a prefix of them that lacks something if that failed
pub record Parts (cause ended : Ended) (given_old given_new : Option Bytes) (bytes : Bytes) : Type 0 where
  pub out : Bytes
  pub ends_by : EndsBy cause ended out (bytes ++ last_line cause)
  pub given : given_new ≡ grown given_old out

-- how the session parts at this stop: if memory ran out, nothing more is given
abbrev pub PartsAt : Stop → Ended → Option Bytes → Option Bytes → Bytes → Type 0
PartsAt (Refused refusal) ended given_old given_new bytes = Parts (cause_of (Refused refusal)) ended given_old given_new bytes
PartsAt (Slow size) ended given_old given_new bytes = Parts (cause_of (Slow size)) ended given_old given_new bytes
PartsAt NoMemory ended given_old given_new bytes = (ended ≡ ends.NoMemory) × (given_new ≡ given_old)
