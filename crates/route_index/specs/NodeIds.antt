-- The numbers of the subscriptions whose patterns end at each node of a tree of tokens.
use Rattle.std.specs.Prelude.{◌≡◌, ℕ, Bool, ◌&&◌, ◌||◌, not, ◌==◌, List, [], Option, Some, None}
use Rattle.std.specs.Ordering.{nat_cmp}
use Rattle.std.specs.BTreeMap.{BTreeMap, get}
use Rattle.std.specs.BTreeSet.{BTreeSet}
use Rattle.route_index.specs.Ids.{is_in}

abbrev pub NodeIds : Type 0
NodeIds = BTreeMap ℕ (BTreeSet ℕ)

abbrev pub numbers_in : Option (BTreeSet ℕ) → List ℕ
numbers_in None = []
numbers_in (Some set) = set.keys

-- the numbers at a node, in their order
abbrev pub ids_at : NodeIds → ℕ → List ℕ
ids_at ids node = numbers_in (get nat_cmp ids node)

-- the number is at the node
abbrev pub is_at_node : NodeIds → ℕ → ℕ → Bool
is_at_node ids node id = is_in (get nat_cmp ids node) id

-- the same numbers are at each node
pub record KeepsNodes (old new : NodeIds) : Type 0 where
  pub at : (node id : ℕ) → is_at_node new node id ≡ is_at_node old node id

-- one number more is at this node
pub record AddsAt (old new : NodeIds) (here one : ℕ) : Type 0 where
  pub at : (node id : ℕ) → is_at_node new node id ≡ (is_at_node old node id || (here == node && one == id))

-- this number is not at this node any more
pub record DropsAt (old new : NodeIds) (here one : ℕ) : Type 0 where
  pub at : (node id : ℕ) → is_at_node new node id ≡ (is_at_node old node id && not (here == node && one == id))
