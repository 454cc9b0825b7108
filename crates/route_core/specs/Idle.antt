-- A session for which nothing waits.
use Rattle.std.specs.Prelude.{ℕ, false, []}
use Rattle.js_model.specs.Router.{Router, IsRoute, Collect, Frames}

-- the session is open, and whatever length a collect allows, it gives no frame, leaves none, and changes nothing
abbrev pub IsIdle : Router → ℕ → Type 0
IsIdle router session = (max : ℕ) → IsRoute router (Collect session max) (Frames [] false) router
