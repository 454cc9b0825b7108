-- Two places whose streams one catalog cannot hold: JetStream lets no two streams share a name or a subject.
use Rattle.std.specs.Prelude.{◌≡◌, ◌<◌, ◌≤◌, ◌||◌, ℕ, zero, suc, Bool, true, false, List, [], ◌∷◌, Option, None, Some}
use Rattle.std.specs.List.{list_any}
use Rattle.js_base.specs.Bytes.{Bytes, same}
use Rattle.js_model.specs.declared.kept_place.KeptPlace.{KeptPlace}
use Rattle.js_model.specs.Catalog.{meets_some}

-- the stream that the place of this number kept
abbrev pub kept_at : List KeptPlace → ℕ → Option (Bytes × List Bytes)
kept_at [] n = None
kept_at (place ∷ places) zero = place.stream
kept_at (place ∷ places) (suc n) = kept_at places n

-- two streams share a name, or a subject of the one meets one of the other
abbrev pub conflicts : Option (Bytes × List Bytes) → Option (Bytes × List Bytes) → Bool
conflicts None other = false
conflicts (Some one) None = false
conflicts (Some one) (Some other) = same one.0 other.0 || list_any (meets_some other.1) one.1

abbrev pub conflict_at : List KeptPlace → ℕ → ℕ → Bool
conflict_at places m n = conflicts (kept_at places m) (kept_at places n)

-- of the places behind the first one, this is the lowest whose stream conflicts with its stream
pub record IsFirstBehind (places : List KeptPlace) (first second : ℕ) : Type 0 where
  pub behind : first < second
  pub conflict : conflict_at places first second ≡ true
  pub lowest : (n : ℕ) → first < n → conflict_at places first n ≡ true → second ≤ n

-- the first two places whose streams conflict: the lowest one that conflicts with some behind it, and the lowest one of those
pub record IsFirstConflict (places : List KeptPlace) (first second : ℕ) : Type 0 where
  pub lowest : (m n : ℕ) → m < n → conflict_at places m n ≡ true → first ≤ m
  pub is_behind : IsFirstBehind places first second

-- no two do
abbrev pub AreWithoutConflict : List KeptPlace → Type 0
AreWithoutConflict places = (m n : ℕ) → m < n → conflict_at places m n ≡ false
