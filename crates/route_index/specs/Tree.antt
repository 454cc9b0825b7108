-- A tree of tokens: its branches lead from node to node by a token each, and at a node stand the numbers of the subscriptions whose patterns end there.
use Rattle.std.specs.Prelude.{◌≡◌, ℕ, ◌<◌, ◌≤◌, Bool, false, ◌==◌, ◌&&◌, ◌||◌, not, true, List, [], ◌∷◌, ◌++◌, Option, Some, None}
use Rattle.std.specs.Ordering.{nat_cmp}
use Rattle.std.specs.BTreeMap.{get, IsOrdered}
use Rattle.js_base.specs.Bytes.{Bytes, same}
use Rattle.js_base.specs.Subjects.{tokens, star, rest}
use Rattle.route_index.specs.declared.names.Names.{Names}
use Rattle.route_index.specs.declared.tree.Tree.{Tree}
use Rattle.route_index.specs.Ids.{Patterns}
use Rattle.route_index.specs.Names.{number_of}
use Rattle.route_index.specs.NodeIds.{NodeIds, ids_at, is_at_node}

-- ---- ways

-- the node to which a token leads from a node, if there is one
abbrev pub step : Names → Option ℕ → Bytes → Option ℕ
step branches None token = None
step branches (Some node) token = number_of branches node token

-- .. to which tokens lead
abbrev pub goes : Names → Option ℕ → List Bytes → Option ℕ
goes branches node [] = node
goes branches node (token ∷ more) = goes branches (step branches node token) more

abbrev pub ids_of : NodeIds → Option ℕ → List ℕ
ids_of ids None = []
ids_of ids (Some node) = ids_at ids node

abbrev pub is_of_node : NodeIds → Option ℕ → ℕ → Bool
is_of_node ids None id = false
is_of_node ids (Some node) id = is_at_node ids node id

-- the number is at the node to which these tokens lead from the root
abbrev pub is_under_tokens : Tree → List Bytes → ℕ → Bool
is_under_tokens tree parts id = is_of_node tree.ids (goes tree.branches (Some 0) parts) id

-- ---- the search for what matches a subject

-- the numbers that are found from a node on by what is left of the subject: at its end those of the node, and else those to which a last `>` leads, and
-- those that are found behind `*` and behind its next token
abbrev pub found_at : Tree → Option ℕ → List Bytes → List ℕ
found_at tree node [] = ids_of tree.ids node
found_at tree node (token ∷ more) =
    ids_of tree.ids (step tree.branches node rest)
    ++ (found_at tree (step tree.branches node star) more ++ found_at tree (step tree.branches node token) more)

-- ---- what holds of a tree

-- some tokens lead from the root to the node
abbrev pub IsReached : Names → ℕ → Type 0
IsReached branches node = (parts : List Bytes) × (goes branches (Some 0) parts ≡ Some node)

-- no token leads on from the node, and no number is there
pub record IsBareNode (branches : Names) (ids : NodeIds) (node : ℕ) : Type 0 where
  pub no_way : (token : Bytes) → number_of branches node token ≡ None
  pub no_id : (id : ℕ) → is_at_node ids node id ≡ false

-- one way leads from the root, which is 0, to each node, and none to those from `next` on
pub record IsTree (tree : Tree) : Type 0 where
  pub some : 0 < tree.next
  pub below : (parts : List Bytes) (node : ℕ) → goes tree.branches (Some 0) parts ≡ Some node → node < tree.next
  pub fresh : (node : ℕ) → tree.next ≤ node → IsBareNode tree.branches tree.ids node
  pub one_way : (a b : List Bytes) (node : ℕ) → goes tree.branches (Some 0) a ≡ Some node → goes tree.branches (Some 0) b ≡ Some node → a ≡ b

abbrev pub same_tokens : List Bytes → List Bytes → Bool
same_tokens [] [] = true
same_tokens [] (_ ∷ _) = false
same_tokens (_ ∷ _) [] = false
same_tokens (a ∷ more) (b ∷ others) = same a b && same_tokens more others

-- no number is under any tokens
pub record HoldsNothing (tree : Tree) : Type 0 where
  pub at : (parts : List Bytes) (id : ℕ) → is_under_tokens tree parts id ≡ false

-- ---- changes

-- the same numbers are under the same tokens, and what was a tree is one
pub record KeepsTree (old new : Tree) : Type 0 where
  pub tree : IsTree new
  pub at : (parts : List Bytes) (id : ℕ) → is_under_tokens new parts id ≡ is_under_tokens old parts id

-- .. and each way leads where it led
pub record GrowsTree (old new : Tree) : Type 0 where
  pub keeps : KeepsTree old new
  pub ways : (parts : List Bytes) (node : ℕ) → goes old.branches (Some 0) parts ≡ Some node → goes new.branches (Some 0) parts ≡ Some node

-- one number more is under these tokens
pub record AddsToTree (old new : Tree) (here : List Bytes) (one : ℕ) : Type 0 where
  pub tree : IsTree new
  pub at : (parts : List Bytes) (id : ℕ) → is_under_tokens new parts id ≡ (is_under_tokens old parts id || (same_tokens here parts && one == id))

-- this number is not under these tokens any more
pub record DropsFromTree (old new : Tree) (here : List Bytes) (one : ℕ) : Type 0 where
  pub tree : IsTree new
  pub at : (parts : List Bytes) (id : ℕ) → is_under_tokens new parts id ≡ (is_under_tokens old parts id && not (same_tokens here parts && one == id))

-- ---- the pattern of each number

abbrev pub has_tokens : Option Bytes → List Bytes → Bool
has_tokens None parts = false
has_tokens (Some own) parts = same_tokens (tokens own) parts

-- the numbers are under the tokens of their patterns, and under no others
pub record Shows (patterns : Patterns) (tree : Tree) : Type 0 where
  pub ordered : IsOrdered nat_cmp patterns
  pub is_tree : IsTree tree
  pub at : (parts : List Bytes) (id : ℕ) → is_under_tokens tree parts id ≡ has_tokens (get nat_cmp patterns id) parts
