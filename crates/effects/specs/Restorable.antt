-- What a volume may hold beside what is sound and within its bounds, so that a stream can be restored to it: an invariant of this server's own, which each
-- state between two calls has.
use Rattle.std.specs.Prelude.{◌≡◌, ◌≤◌, ℕ, List, [], ◌∷◌, ⊤}
use Rattle.js_model.specs.declared.stream.Stream.{Stream}
use Rattle.js_model.specs.declared.stream.State.{State}
use Rattle.js_model.specs.declared.stream.State.TheVariants.{Vacant, Live}
use Rattle.js_model.specs.Events.{settled}

-- the moments do not fall, from low on, and are at most high
abbrev pub Rises : {X : Type 0} → (X → ℕ) → ℕ → ℕ → List X → Type 0
Rises f low high [] = low ≤ high
Rises f low high (x ∷ xs) = (low ≤ f x) × Rises f (f x) high xs

-- no message and no id is later than the one after it, or than the last moment that the stream has seen
pub record AreInTime (s : Stream) : Type 0 where
  pub messages : Rises (λ m. m.at) 0 s.moment s.messages
  pub ids : Rises (λ i. i.at) 0 s.moment s.ids

-- and neither the limits nor the retention drop a message
pub record IsRestorableStream (s : Stream) : Type 0 where
  pub in_time : AreInTime s
  pub settled_is : settled s ≡ s

abbrev pub IsInTime : State → Type 0
IsInTime (Vacant i) = ⊤
IsInTime (Live s) = AreInTime s

abbrev pub IsRestorable : State → Type 0
IsRestorable (Vacant i) = ⊤
IsRestorable (Live s) = IsRestorableStream s
