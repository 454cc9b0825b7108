-- The moments that a clock gives: a list whose last member stays.
use Rattle.std.specs.Prelude.{◌≡◌, ℕ, List, [], ◌∷◌, Option, None, Some, option_map}

-- the moments to come once one was read
abbrev pub moments_after : List ℕ → List ℕ
moments_after [] = []
moments_after (m ∷ []) = m ∷ []
moments_after (m ∷ n ∷ ms) = n ∷ ms

-- the first of the moments, if one is known
abbrev pub IsFirst : Option (List ℕ) → ℕ → Type 0
IsFirst (Some (m ∷ ms)) moment = moment ≡ m
IsFirst (Some []) moment = Unit {0}
IsFirst None moment = Unit {0}

-- a moment was read, which leaves these to come
pub record ReadsMoment (old : Option (List ℕ)) (moment : ℕ) (new : Option (List ℕ)) : Type 0 where
  pub first : IsFirst old moment
  pub rest : new ≡ option_map moments_after old

-- moments were read one after another
abbrev pub ReadsMoments : Option (List ℕ) → List ℕ → Option (List ℕ) → Type 0
ReadsMoments old [] new = new ≡ old
ReadsMoments old (moment ∷ moments) new =
    IsFirst old moment × ReadsMoments (option_map moments_after old) moments new
