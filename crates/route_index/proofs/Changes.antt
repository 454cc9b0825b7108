-- Changes of a tree, one after the other.
use Rattle.std.proofs.Common.{◌≡◌, ℕ, ◌==◌, ◌&&◌, ◌||◌, Bool, true, false, List, Option, Some, None, refl, sym, ap, ◌∙◌}
use Rattle.std.specs.Prelude.{IfSome}
use Rattle.std.specs.Bool.{OnTrue}
use Rattle.std.proofs.lemmas.Bool.{eqb-true}
use Rattle.js_base.specs.Bytes.{Bytes}
use Rattle.route_index.specs.declared.names.Names.{Names}
use Rattle.route_index.specs.declared.tree.Tree.{Tree}
use Rattle.route_index.specs.Names.{count_of}
use Rattle.route_index.specs.NodeIds.{NodeIds, is_at_node}
use Rattle.route_index.specs.Tree.{goes, is_of_node, IsBareNode, same_tokens, KeepsTree, AddsToTree, DropsFromTree}
use Rattle.route_index.proofs.Naming.{none_of}
use Rattle.route_index.proofs.Ways.{goes_none, bare_leads}

pub adds_after : (old mid new : Tree) (here : List Bytes) (one : ℕ) → KeepsTree old mid → AddsToTree mid new here one → AddsToTree old new here one
adds_after old mid new here one keeps adds = record { tree = adds.tree; at = λ parts id. adds.at parts id ∙ ap (λ b. b || (same_tokens here parts && one == id)) (keeps.at parts id) }

pub drops_before : (old mid new : Tree) (here : List Bytes) (one : ℕ) → DropsFromTree old mid here one → KeepsTree mid new → DropsFromTree old new here one
drops_before old mid new here one drops keeps = record { tree = keeps.tree; at = λ parts id. keeps.at parts id ∙ drops.at parts id }

-- a node without numbers and without texts
is_bare : (branches : Names) (ids : NodeIds) (node : ℕ) → ((id : ℕ) → is_at_node ids node id ≡ false) → count_of branches node ≡ 0 → IsBareNode branches ids node
is_bare branches ids node no_id none = record { no_way = λ token. none_of branches node token none; no_id = no_id }

pub bare_by : (branches : Names) (ids : NodeIds) (node count : ℕ) → ((id : ℕ) → is_at_node ids node id ≡ false) → count ≡ count_of branches node → OnTrue (count == 0) (IsBareNode branches ids node)
bare_by branches ids node count no_id e = go (count == 0) refl
  where
    go : (b : Bool) → (count == 0) ≡ b → OnTrue b (IsBareNode branches ids node)
    go true h = is_bare branches ids node no_id (sym e ∙ eqb-true count 0 h)
    go false h = tt

-- no number is found by a branch to a node at which nothing is
pub nothing_behind : (branches : Names) (ids : NodeIds) (to : Option ℕ) → IfSome to (IsBareNode branches ids) → (parts : List Bytes) (id : ℕ) → is_of_node ids (goes branches to parts) id ≡ false
nothing_behind branches ids None bare parts id = ap (λ o. is_of_node ids o id) (goes_none branches parts)
nothing_behind branches ids (Some node) bare parts id = bare_leads branches ids node bare ids parts id (bare.no_id id)
