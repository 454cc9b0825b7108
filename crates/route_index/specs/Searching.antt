-- What the search among the patterns finds.
use Rattle.std.specs.Prelude.{◌≡◌, ◌⊎◌, ℕ, Bool, true, false, ◌||◌, ◌==◌, List, ◌∷◌, ◌++◌}
use Rattle.std.specs.List.{AllByRecursion, All}
use Rattle.js_base.specs.Bytes.{Bytes, has}
use Rattle.js_base.specs.Subjects.{tokens, matches, meets}
use Rattle.route_index.specs.declared.seek.Seek.{Seek}
use Rattle.route_index.specs.declared.seek.Seek.TheVariants.{Matching, Overlapping}
use Rattle.route_index.specs.Ids.{Ids, is_under}

-- overlaps are sought
abbrev pub seeks_overlaps : Seek → Bool
seeks_overlaps Matching = false
seeks_overlaps Overlapping = true

-- a pattern is one of those that are sought: it matches the subject of these tokens, or meets the pattern of these tokens
abbrev pub fits : Seek → List Bytes → List Bytes → Bool
fits Matching pattern parts = matches pattern parts
fits Overlapping pattern parts = meets parts pattern

-- the numbers that have been found are now also those under this pattern
pub record AddsUnder (ids : Ids) (pattern : Bytes) (old new : List ℕ) : Type 0 where
  pub at : (id : ℕ) → has new id ≡ (has old id || is_under ids pattern id)

-- .. also those under each pattern that begins with this prefix and goes on so that it is sought by these tokens
pub record AddsFitting (seek : Seek) (ids : Ids) (front : Bytes) (parts : List Bytes) (old new : List ℕ) : Type 0 where
  pub kept : (id : ℕ) → has old id ≡ true → has new id ≡ true
  pub all : (text : Bytes) (id : ℕ) → fits seek (tokens text) parts ≡ true → is_under ids (front ++ text) id ≡ true → has new id ≡ true
  pub only : (id : ℕ) → has new id ≡ true
      → (has old id ≡ true) ⊎ ((text : Bytes) × (fits seek (tokens text) parts ≡ true) × (is_under ids (front ++ text) id ≡ true))

-- .. also those under each pattern that begins with this prefix and this token and goes on so that it is sought by the other tokens
pub record AddsBelow (seek : Seek) (ids : Ids) (front token : Bytes) (others : List Bytes) (old new : List ℕ) : Type 0 where
  pub kept : (id : ℕ) → has old id ≡ true → has new id ≡ true
  pub all : (text : Bytes) (more : List Bytes) (id : ℕ) → tokens text ≡ token ∷ more → fits seek more others ≡ true → is_under ids (front ++ text) id ≡ true → has new id ≡ true
  pub only : (id : ℕ) → has new id ≡ true
      → (has old id ≡ true)
      ⊎ ((text : Bytes) × (more : List Bytes) × (tokens text ≡ token ∷ more) × (fits seek more others ≡ true) × (is_under ids (front ++ text) id ≡ true))

-- .. also those under each pattern that begins with this prefix and any token and goes on so that it is sought by the other tokens
pub record AddsEach (seek : Seek) (ids : Ids) (front : Bytes) (others : List Bytes) (old new : List ℕ) : Type 0 where
  pub kept : (id : ℕ) → has old id ≡ true → has new id ≡ true
  pub all : (text token : Bytes) (more : List Bytes) (id : ℕ) → tokens text ≡ token ∷ more → fits seek more others ≡ true → is_under ids (front ++ text) id ≡ true → has new id ≡ true
  pub only : (id : ℕ) → has new id ≡ true
      → (has old id ≡ true)
      ⊎ ((text token : Bytes) × (more : List Bytes) × (tokens text ≡ token ∷ more) × (fits seek more others ≡ true) × (is_under ids (front ++ text) id ≡ true))

-- .. also those under each pattern that begins with this prefix
pub record AddsAll (ids : Ids) (front : Bytes) (old new : List ℕ) : Type 0 where
  pub kept : (id : ℕ) → has old id ≡ true → has new id ≡ true
  pub all : (text : Bytes) (id : ℕ) → is_under ids (front ++ text) id ≡ true → has new id ≡ true
  pub only : (id : ℕ) → has new id ≡ true → (has old id ≡ true) ⊎ ((text : Bytes) × (is_under ids (front ++ text) id ≡ true))

-- no pattern with a number begins with this prefix
pub record IsBare (ids : Ids) (front : Bytes) : Type 0 where
  pub at : (text : Bytes) (id : ℕ) → is_under ids (front ++ text) id ≡ false

abbrev pub IsDotless : Bytes → Type 0
IsDotless token = All (λ byte. (byte == 46) ≡ false) token

abbrev pub AreDotless : List Bytes → Type 0
AreDotless parts = AllByRecursion IsDotless parts
