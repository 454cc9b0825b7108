-- A session that was served over a link.
use Rattle.std.specs.Prelude.{◌≡◌, ℕ, Bool, false, true, [], Option, Some, IfSome}
use Rattle.js_base.specs.Bytes.{Bytes}
use Rattle.js_base.specs.Causes.{Rose}
use Rattle.link_edge.specs.Failings.{no_failings}
use Rattle.link_edge.specs.Reports.{Report}
use Rattle.session.specs.Failing.{FailsAt}
use Rattle.session.specs.Talk.{Journal, Talk, answers_of}
use Rattle.session.specs.declared.ending.Limits.{Limits}
use Rattle.session.specs.declared.ending.Ended.{Ended}
use Rattle.session.specs.declared.ending.Ended.TheVariants as ends
use Rattle.session.specs.declared.ending.Refusal.TheVariants as refusals

abbrev pub no_limits : Limits
no_limits = record { input = 0; quiet = 0; host = []; port = 0; ticks = false }

-- The link with this report was given the bytes of a talk over just what it answered. The talk ended so. One give failed at most, or one call of the
-- link found no memory at most; then the talk ended so, and no call of the link came after that one.
pub record IsSession (limits : Limits) (report : Report) (journal : Journal) (bytes : Bytes) (ended : Ended) : Type 0 where
  pub talk : Talk limits journal bytes ended
  pub answered : IfSome report.answered (λ answers. answers ≡ answers_of journal)
  pub given : IfSome report.given (λ given. given ≡ bytes)
  pub failings : IfSome report.failings (λ failings. FailsAt journal.last ended (Some no_failings) (Some failings))
  pub cause : ended ≡ ends.LinkFault → Rose 0 report.faults

-- a session ended since the numbers of turns or of sessions were used up
abbrev pub used_up : Ended
used_up = ends.Refused refusals.NumbersUsed

-- a session that ended so found no memory
abbrev pub ended_starved : Ended → Bool
ended_starved ends.Closed = false
ended_starved (ends.Refused refusal) = false
ended_starved (ends.Slow size) = false
ended_starved ends.Stale = false
ended_starved ends.LinkFault = false
ended_starved ends.InputLimit = false
ended_starved ends.NoMemory = true
