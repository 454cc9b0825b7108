-- How long what waits for a commit does so, by a rule of this server's own: at the first tick a second or more after the first of it was made it is committed. A
-- moment alone may wait for ever, so that a server at rest writes nothing.
use Rattle.std.specs.Prelude.{◌≡◌, ◌≤◌, ◌⊎◌, ℕ, Bool, true, false, if◌then◌else◌, List, [], ◌∷◌, Option, None, Some, MatchOption, unwrap_or}
use Rattle.js_base.specs.Moments.{plus}
use Rattle.js_model.specs.declared.event.What.{What}
use Rattle.js_model.specs.declared.event.What.TheVariants.{Tick}
use Rattle.effects.specs.declared.effect.Effect.{Effect}
use Rattle.place_engine.specs.Following.{is_now}
use Rattle.volume_place.specs.Contents.{Contents}

-- there is no record, or one that tells the moment
abbrev pub is_moment : List Effect → Bool
is_moment [] = true
is_moment (effect ∷ []) = is_now effect
is_moment (effect ∷ next ∷ more) = false

-- It is told since when something waits, just if something does.
abbrev pub IsDated : List Effect → Option ℕ → Type 0
IsDated waiting since = MatchOption since (is_moment waiting ≡ true) (λ first. is_moment waiting ≡ false)

-- since when these wait after a call at a moment: since it began, or since something did before
abbrev pub since_by : ℕ → Option ℕ → List Effect → Option ℕ
since_by now since waiting = if is_moment waiting then None else Some (unwrap_or since now)

-- the moment from which on a tick commits it, as a list
abbrev pub tail_timers : Option ℕ → List ℕ
tail_timers None = []
tail_timers (Some first) = plus first 1000000000 ∷ []

-- this is a tick at such a moment
abbrev pub IsOverdue : Option ℕ → What → ℕ → Type 0
IsOverdue None what now = ⊥
IsOverdue (Some first) what now = (what ≡ Tick) × (plus first 1000000000 ≤ now)

-- nothing waits any more, or all that did, and since when it did
abbrev pub KeepsTail : {V : Type 0} → Contents V → Contents V → Type 0
KeepsTail old new = ((new.waiting ≡ []) × (new.since ≡ None)) ⊎ ((new.waiting ≡ old.waiting) × (new.since ≡ old.since))
