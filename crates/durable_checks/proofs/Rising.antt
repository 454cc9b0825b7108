-- Moments that do not fall, as a list of their own.
use Rattle.std.proofs.Common.{ℕ, List, [], ◌∷◌, map}
use Rattle.effects.specs.Restorable.{Rises}

abbrev moment : ℕ → ℕ
moment n = n

-- by a moment of each element
pub rises_mapped : {X : Type 0} (f : X → ℕ) (low high : ℕ) (xs : List X) → Rises f low high xs → Rises moment low high (map f xs)
rises_mapped f low high [] h = h
rises_mapped f low high (x ∷ xs) h = (h.0, rises_mapped f (f x) high xs h.1)

pub rises_from : {X : Type 0} (f : X → ℕ) (low high : ℕ) (xs : List X) → Rises moment low high (map f xs) → Rises f low high xs
rises_from f low high [] h = h
rises_from f low high (x ∷ xs) h = (h.0, rises_from f (f x) high xs h.1)
