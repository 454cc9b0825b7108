-- Keeping a connection alive, by the NATS client protocol's PING and PONG.
use Rattle.std.specs.Prelude.{ℕ, nat_le, Bool, true, false, List, [], ◌∷◌, ◌++◌}
use Rattle.js_base.specs.Bytes.{Bytes}
use Rattle.js_base.specs.Framing.{frame}
use Rattle.js_base.specs.Moments.{plus}
use Rattle.js_base.specs.declared.frame.Frame.TheVariants.{Ping}

-- 120 seconds, in nanoseconds
abbrev pub patience : ℕ
patience = 120000000000

-- 240 seconds
abbrev pub long_patience : ℕ
long_patience = 240000000000

-- so much time passed from the one moment to the other; of moments near the last one, the last one is late enough
abbrev pub has_passed : ℕ → ℕ → ℕ → Bool
has_passed span from now = nat_le (plus from span) now

-- a PING is due 120 seconds after something came, and a second one 120 seconds after the first one that was not answered
abbrev pub is_ping_due : ℕ → List ℕ → ℕ → Bool
is_ping_due came [] now = has_passed patience came now
is_ping_due came (first ∷ []) now = has_passed patience first now
is_ping_due came (first ∷ second ∷ more) now = false

-- two PINGs are not answered, and 240 seconds passed since the first
abbrev pub is_stale : List ℕ → ℕ → Bool
is_stale [] now = false
is_stale (first ∷ []) now = false
is_stale (first ∷ second ∷ more) now = has_passed long_patience first now

-- the PINGs that are not answered after a quiet turn
abbrev pub pinged : Bool → List ℕ → ℕ → List ℕ
pinged true pings now = pings ++ now ∷ []
pinged false pings now = pings

abbrev pub ping_bytes : Bool → Bytes
ping_bytes true = frame Ping
ping_bytes false = []
