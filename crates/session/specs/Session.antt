-- What a session leaves of its desk, its link and its clock.
use Rattle.std.specs.Prelude.{◌≡◌, ℕ, List, ◌++◌, Option, map}
use Rattle.std.specs.List.{flat_map}
use Rattle.js_base.specs.Bytes.{Bytes}
use Rattle.link_edge.specs.Told.{grown}
use Rattle.link_edge.specs.Moments.{ReadsMoments}
use Rattle.link_edge.specs.Failings.{HasNoFailings}
use Rattle.link_edge.specs.declared.answers.Answer.{Answer}
use Rattle.link_edge.specs.declared.failings.Failings.{Failings}
use Rattle.js_api.specs.Entries.{DeskEntry}
use Rattle.session.specs.Talk.{Journal, Talk, Turn, Last, Stage, start, AreTurns, Ends, greeting, before_last, entries_of, entries_of_turn, entries_of_last, answers_of, last_answers, moments_of, last_moments}
use Rattle.session.specs.Failing.{FailsAt}
use Rattle.session.specs.declared.ending.Limits.{Limits}
use Rattle.session.specs.declared.ending.Ended.{Ended}

-- an open session from the server's information to its end
pub record Converses {D : Type 0} (made : D → List DeskEntry → D → Type 0) (limits : Limits) (session : ℕ) (desk_old desk_new : D) (answered_old answered_new : Option (List Answer)) (given_old given_new : Option Bytes) (clock_old clock_new : Option (List ℕ)) (failings_old failings_new : Option Failings) (ended : Ended) : Type 0 where
  pub turns : List Turn
  pub last : Last
  pub stage : Stage
  pub said : Bytes
  pub more : Bytes
  pub are_turns : AreTurns limits (start limits session) turns stage said
  pub ends : Ends limits (start limits session) stage (greeting limits session) last ended more
  pub answered : answered_new ≡ grown answered_old (map (λ (turn : Turn). turn.answer) turns ++ last_answers last)
  pub moments : ReadsMoments clock_old (map (λ (turn : Turn). turn.moment) turns ++ last_moments last) clock_new
  pub led : made desk_old (flat_map entries_of_turn turns ++ entries_of_last last) desk_new
  pub given : given_new ≡ grown given_old (before_last (greeting limits session) last said ++ more)
  pub failings : HasNoFailings failings_old → FailsAt last ended failings_old failings_new

-- The session's journal is over just what the link answered and the moments that the clock told, the desk was led by its entries, and the
-- link was given its bytes. Of a link that had no failing before, one give failed at most, and then the session ended as a fault of the link; or one
-- call found no memory at most, and then it ended as out of memory; and no call came after that one. If nothing is told, it is over some answers and
-- moments.
pub record Serves {D : Type 0} (made : D → List DeskEntry → D → Type 0) (limits : Limits) (desk_old desk_new : D) (answered_old answered_new : Option (List Answer)) (given_old given_new : Option Bytes) (clock_old clock_new : Option (List ℕ)) (failings_old failings_new : Option Failings) (ended : Ended) : Type 0 where
  pub journal : Journal
  pub bytes : Bytes
  pub talk : Talk limits journal bytes ended
  pub answered : answered_new ≡ grown answered_old (answers_of journal)
  pub moments : ReadsMoments clock_old (moments_of journal) clock_new
  pub led : made desk_old (entries_of journal) desk_new
  pub given : given_new ≡ grown given_old bytes
  pub failings : HasNoFailings failings_old → FailsAt journal.last ended failings_old failings_new
