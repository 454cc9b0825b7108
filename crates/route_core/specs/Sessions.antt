-- The sessions that are open.
use Rattle.std.specs.Prelude.{ℕ, ◌+◌, ◌<◌, ◌^◌, Bool, true, not, ◌&&◌, List, [], ◌∷◌, Option, Some, None, if◌then◌else◌}
use Rattle.std.specs.List.{list_any}
use Rattle.js_base.specs.declared.frame.Frame.{Frame}
use Rattle.js_model.specs.Lists.{Between}
use Rattle.js_model.specs.Router.{Session, is_session, with_frame}

abbrev pub number_of : Session → ℕ
number_of session = session.number

-- the sessions' numbers ascend, and none is above the latest
pub record AreNumbered (latest : ℕ) (sessions : List Session) : Type 0 where
  pub small : latest < 2 ^ 62
  pub ascend : Between number_of 1 (latest + 1) sessions

-- the sessions' numbers ascend, up to some latest
pub record InOrder (sessions : List Session) : Type 0 where
  pub latest : ℕ
  pub numbered : AreNumbered latest sessions

-- the first that passes the test is changed
abbrev pub with_first : {X : Type 0} → (X → Bool) → (X → X) → List X → List X
with_first test change [] = []
with_first test change (x ∷ xs) = if test x then change x ∷ xs else x ∷ with_first test change xs

abbrev pub set_options : Bool → Bool → Session → Session
set_options echo headers session = record session { echo = echo; headers = headers }

abbrev pub receiving : Frame → Session → Session
receiving f session = record session { waiting = with_frame f session.waiting }

-- if a session publishes, it is open
abbrev pub is_publisher_open : List Session → Option ℕ → Bool
is_publisher_open sessions None = true
is_publisher_open sessions (Some n) = list_any (is_session n) sessions

abbrev pub takes_headers : List Session → ℕ → Bool
takes_headers sessions n = list_any (λ session. is_session n session && session.headers) sessions

abbrev pub is_deaf_in : List Session → ℕ → Bool
is_deaf_in sessions n = list_any (λ session. is_session n session && not session.echo) sessions

-- the publisher, if it does not hear itself
abbrev pub deaf_of : List Session → Option ℕ → Option ℕ
deaf_of sessions None = None
deaf_of sessions (Some n) = if is_deaf_in sessions n then Some n else None
