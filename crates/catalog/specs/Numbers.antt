-- The numbers under which the index knows the subjects: those of one place leave its own remainder by 32, so a number tells its place.
use Rattle.std.specs.Prelude.{◌≡◌, ℕ, zero, suc, ◌+◌, ◌*◌, ◌%◌, ◌≤◌, ◌==◌, ◌^◌, Bool, not, List, [], ◌∷◌, ◌++◌, length, filter}
use Rattle.js_base.specs.Bytes.{Bytes, has}
use Rattle.route_index.specs.declared.sub.Sub.{Sub}
use Rattle.route_index.specs.Subs.{IsAbove}
use Rattle.catalog.specs.declared.listing.Listing.{Listing}

-- so many numbers from the first on, 32 apart
abbrev pub numbers : ℕ → ℕ → List ℕ
numbers first zero = []
numbers first (suc more) = first ∷ numbers (first + 32) more

-- the subjects under such numbers
abbrev pub numbered : ℕ → List Bytes → List Sub
numbered first [] = []
numbered first (pattern ∷ more) = record { id = first; pattern = pattern } ∷ numbered (first + 32) more

-- the number is one of this place
abbrev pub is_of : ℕ → ℕ → Bool
is_of place id = id % 32 == place

-- what the index knows of this place
abbrev pub subs_of_place : ℕ → List Sub → List Sub
subs_of_place place subs = filter (λ sub. is_of place sub.id) subs

-- the subscriptions of other numbers
abbrev pub without_numbers : List ℕ → List Sub → List Sub
without_numbers ids subs = filter (λ sub. not (has ids sub.id)) subs

-- all numbers that were given are of earlier rounds, of which there are not too many
pub record IsEarlier (listing : Listing) : Type 0 where
  pub above : IsAbove (listing.rounds * 32) listing.index
  pub few : listing.rounds ≤ 2 ^ 58

-- the subjects were put under numbers of this place, the first of which is told
pub record IsPut (place : ℕ) (subjects : List Bytes) (old : Listing) (first : ℕ) (new : Listing) : Type 0 where
  pub number : first ≡ old.rounds * 32 + place
  pub index : new.index ≡ old.index ++ numbered first subjects
  pub rounds : new.rounds ≡ old.rounds + length subjects
  pub few : new.rounds ≤ 2 ^ 58
