-- A moment before which no timer fires.
use Rattle.std.specs.Prelude.{◌≡◌, ◌≤◌, ℕ, List, [], All, Option, Some, None}

-- none of these moments is earlier; where there is no such moment, there are none of them
abbrev pub IsTimerBound : List ℕ → Option ℕ → Type 0
IsTimerBound moments None = moments ≡ []
IsTimerBound moments (Some bound) = All (λ moment. bound ≤ moment) moments
