-- The numbers under each pattern, and how they mirror the pattern of each number.
use Rattle.std.specs.Prelude.{◌≡◌, ℕ, Bool, false, ◌&&◌, ◌||◌, not, ◌==◌, List, map, Option, Some, None}
use Rattle.std.specs.Ordering.{nat_cmp}
use Rattle.std.specs.Cmp.Lexicographic.{slice_cmp}
use Rattle.std.specs.BTreeMap.{BTreeMap, get, IsOrdered}
use Rattle.std.specs.BTreeSet.{BTreeSet, contains}
use Rattle.js_base.specs.Bytes.{Bytes, same}
use Rattle.route_index.specs.declared.sub.Sub.{Sub}

abbrev pub Ids : Type 0
Ids = BTreeMap Bytes (BTreeSet ℕ)

abbrev pub is_in : Option (BTreeSet ℕ) → ℕ → Bool
is_in None id = false
is_in (Some set) id = contains nat_cmp set id

-- the number is under the pattern
abbrev pub is_under : Ids → Bytes → ℕ → Bool
is_under ids pattern id = is_in (get (slice_cmp nat_cmp) ids pattern) id

-- a set has one number more
pub record AddsToSet (old new : BTreeSet ℕ) (id : ℕ) : Type 0 where
  pub at : (n : ℕ) → contains nat_cmp new n ≡ (contains nat_cmp old n || id == n)

-- the same numbers are under each pattern
pub record KeepsIds (old new : Ids) : Type 0 where
  pub at : (pattern : Bytes) (id : ℕ) → is_under new pattern id ≡ is_under old pattern id

-- one number more is under this pattern
pub record AddsId (old new : Ids) (here : Bytes) (one : ℕ) : Type 0 where
  pub at : (pattern : Bytes) (id : ℕ) → is_under new pattern id ≡ (is_under old pattern id || (same here pattern && one == id))

-- this number is not under this pattern any more
pub record DropsId (old new : Ids) (here : Bytes) (one : ℕ) : Type 0 where
  pub at : (pattern : Bytes) (id : ℕ) → is_under new pattern id ≡ (is_under old pattern id && not (same here pattern && one == id))

-- ---- the pattern of each number

abbrev pub Patterns : Type 0
Patterns = BTreeMap ℕ Bytes

abbrev pub has_pattern : Option Bytes → Bytes → Bool
has_pattern None pattern = false
has_pattern (Some own) pattern = same own pattern

-- the numbers are under their patterns, and under no other
pub record Mirrors (patterns : Patterns) (ids : Ids) : Type 0 where
  pub ordered : IsOrdered nat_cmp patterns
  pub at : (pattern : Bytes) (id : ℕ) → is_under ids pattern id ≡ has_pattern (get nat_cmp patterns id) pattern

abbrev pub sub_of : ℕ × Bytes → Sub
sub_of entry = record { id = entry.0; pattern = entry.1 }

-- the subscriptions, which are in the order of their numbers
abbrev pub subs_of : Patterns → List Sub
subs_of patterns = map sub_of patterns.entries
