-- What a change of the set at one node means for the numbers at all nodes.
use Rattle.std.proofs.Common.{◌≡◌, ℕ, ◌==◌, ◌||◌, ◌&&◌, not, Bool, true, false, cond, Option, sym, ap, refl, ◌∙◌}
use Rattle.std.specs.Ordering.{nat_cmp}
use Rattle.std.specs.BTreeMap.{get, is_at}
use Rattle.std.specs.BTreeSet.{BTreeSet}
use Rattle.std.proofs.lemmas.Bool.{eqb-true}
use Rattle.route_index.specs.Ids.{is_in}
use Rattle.route_index.specs.NodeIds.{NodeIds, is_at_node, KeepsNodes, AddsAt, DropsAt}
use Rattle.route_index.proofs.Numbers.{or_false, and_true, at_number}

-- the set at one node is another now, and the sets at the others are as they were
pub record ReplacesAt (old new : NodeIds) (here : ℕ) (set : Option (BTreeSet ℕ)) : Type 0 where
  pub at : (node : ℕ) → get nat_cmp new node ≡ cond (is_at (nat_cmp here) node) set (get nat_cmp old node)

module _ (old new : NodeIds) (here : ℕ) (set : Option (BTreeSet ℕ)) (replaces : ReplacesAt old new here set) (node id : ℕ) where
  -- at the node
  at_here : (here == node) ≡ true → is_at_node new node id ≡ is_in set id
  at_here e = ap (λ o. is_in o id) (replaces.at node ∙ ap (λ b. cond b set (get nat_cmp old node)) (at_number here node ∙ e))

  -- at another
  at_other : (here == node) ≡ false → is_at_node new node id ≡ is_at_node old node id
  at_other e = ap (λ o. is_in o id) (replaces.at node ∙ ap (λ b. cond b set (get nat_cmp old node)) (at_number here node ∙ e))

  same_node : (here == node) ≡ true → is_at_node old here id ≡ is_at_node old node id
  same_node e = ap (λ n. is_at_node old n id) (eqb-true here node e)

pub keeps_at : (old new : NodeIds) (here : ℕ) (set : Option (BTreeSet ℕ)) → ReplacesAt old new here set → ((id : ℕ) → is_in set id ≡ is_at_node old here id) → KeepsNodes old new
keeps_at old new here set replaces keeps = record { at = λ node id. go node id (here == node) refl }
  where
    go : (node id : ℕ) (b : Bool) → (here == node) ≡ b → is_at_node new node id ≡ is_at_node old node id
    go node id true e = at_here old new here set replaces node id e ∙ keeps id ∙ same_node old new here set replaces node id e
    go node id false e = at_other old new here set replaces node id e

pub adds_at : (old new : NodeIds) (here one : ℕ) (set : Option (BTreeSet ℕ)) → ReplacesAt old new here set → ((id : ℕ) → is_in set id ≡ (is_at_node old here id || one == id)) → AddsAt old new here one
adds_at old new here one set replaces adds = record { at = λ node id. go node id (here == node) refl }
  where
    go : (node id : ℕ) (b : Bool) → (here == node) ≡ b → is_at_node new node id ≡ (is_at_node old node id || (b && one == id))
    go node id true e = at_here old new here set replaces node id e ∙ adds id ∙ ap (λ b. b || one == id) (same_node old new here set replaces node id e)
    go node id false e = at_other old new here set replaces node id e ∙ sym (or_false (is_at_node old node id))

pub drops_at : (old new : NodeIds) (here one : ℕ) (set : Option (BTreeSet ℕ)) → ReplacesAt old new here set → ((id : ℕ) → is_in set id ≡ (is_at_node old here id && not (one == id))) → DropsAt old new here one
drops_at old new here one set replaces drops = record { at = λ node id. go node id (here == node) refl }
  where
    go : (node id : ℕ) (b : Bool) → (here == node) ≡ b → is_at_node new node id ≡ (is_at_node old node id && not (b && one == id))
    go node id true e = at_here old new here set replaces node id e ∙ drops id ∙ ap (λ b. b && not (one == id)) (same_node old new here set replaces node id e)
    go node id false e = at_other old new here set replaces node id e ∙ sym (and_true (is_at_node old node id))

pub drops_at_after : (old mid new : NodeIds) (here one : ℕ) → DropsAt old mid here one → KeepsNodes mid new → DropsAt old new here one
drops_at_after old mid new here one drops keeps = record { at = λ node id. keeps.at node id ∙ drops.at node id }
