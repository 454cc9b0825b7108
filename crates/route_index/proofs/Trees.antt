-- What stays of a tree as branches and numbers come and go.
use Rattle.std.proofs.Common.{◌≡◌, ◌⊎◌, inl, inr, ℕ, ◌+◌, ◌<◌, ◌≤◌, ◌==◌, ◌&&◌, ◌||◌, not, Bool, true, false, cond, List, [], ◌∷◌, ◌++◌, Option, Some, None, refl, sym, ap, subst, ◌∙◌, arith, eq-eqb, append_assoc, append-nil}
use Rattle.std.specs.Ordering.{nat_cmp}
use Rattle.std.specs.Map.{lookup}
use Rattle.std.specs.BTreeMap.{is_at, IsEmpty}
use Rattle.route_index.specs.Ids.{is_in}
use Rattle.std.proofs.lemmas.Bool.{true≢false, eqb-true}
use Rattle.js_base.specs.Bytes.{Bytes, same}
use Rattle.js_base.specs.Subjects.{tokens}
use Rattle.subject_match.specs.Tokens.{tokens_left}
use Rattle.route_index.specs.declared.names.Names.{Names}
use Rattle.route_index.specs.declared.tree.Tree.{Tree}
use Rattle.route_index.specs.Names.{number_of, number_or_none, AddsName, Cuts, KeepsNames}
use Rattle.route_index.specs.NodeIds.{NodeIds, is_at_node, AddsAt, DropsAt, KeepsNodes}
use Rattle.route_index.specs.Tree.{step, goes, is_of_node, is_under_tokens, IsReached, IsBareNode, IsTree, HoldsNothing, same_tokens, KeepsTree, GrowsTree, AddsToTree, DropsFromTree}
use Rattle.route_index.proofs.Numbers.{or_false}
use Rattle.route_index.proofs.Ways.{some_is, none_some, goes_none, goes_last, tokens_are, tokens_self, bare_leads, Turns, same_ids, ways_kept, ways_left, leads}

-- ---- the root alone

module _ (tree : Tree) (no_branch : IsEmpty tree.branches.owners) (no_id : IsEmpty tree.ids) (next : tree.next ≡ 1) where
  no_way : (node : ℕ) (token : Bytes) → number_of tree.branches node token ≡ None
  no_way node token = ap (λ es. number_or_none (lookup (is_at (nat_cmp node)) es) token) no_branch

  no_number : (node id : ℕ) → is_at_node tree.ids node id ≡ false
  no_number node id = ap (λ es. is_in (lookup (is_at (nat_cmp node)) es) id) no_id

  leads_nowhere : (token : Bytes) (more : List Bytes) → goes tree.branches (Some 0) (token ∷ more) ≡ None
  leads_nowhere token more = ap (λ o. goes tree.branches o more) (no_way 0 token) ∙ goes_none tree.branches more

  pub tree_empty : IsTree tree
  tree_empty = record { some = omega (arith, next); below = below; fresh = λ node high. record { no_way = no_way node; no_id = no_number node }; one_way = one_way }
    where
      below : (parts : List Bytes) (node : ℕ) → goes tree.branches (Some 0) parts ≡ Some node → node < tree.next
      below [] node h = let z : 0 ≡ node = some_is h in omega (arith, z, next)
      below (token ∷ more) node h = absurd (none_some (sym (leads_nowhere token more) ∙ h))

      one_way : (a b : List Bytes) (node : ℕ) → goes tree.branches (Some 0) a ≡ Some node → goes tree.branches (Some 0) b ≡ Some node → a ≡ b
      one_way [] [] node h k = refl
      one_way (token ∷ more) b node h k = absurd (none_some (sym (leads_nowhere token more) ∙ h))
      one_way [] (token ∷ more) node h k = absurd (none_some (sym (leads_nowhere token more) ∙ k))

  pub nothing_held : HoldsNothing tree
  nothing_held = record { at = at }
    where
      at : (parts : List Bytes) (id : ℕ) → is_under_tokens tree parts id ≡ false
      at [] id = no_number 0 id
      at (token ∷ more) id = ap (λ o. is_of_node tree.ids o id) (leads_nowhere token more)

-- ---- nothing changes

pub keeps_self : (tree : Tree) → IsTree tree → KeepsTree tree tree
keeps_self tree is = record { tree = is; at = λ parts id. refl }

pub keeps_both : (old mid new : Tree) → KeepsTree old mid → KeepsTree mid new → KeepsTree old new
keeps_both old mid new first second = record { tree = second.tree; at = λ parts id. second.at parts id ∙ first.at parts id }

pub grows_self : (tree : Tree) → IsTree tree → GrowsTree tree tree
grows_self tree is = record { keeps = keeps_self tree is; ways = λ parts node h. h }

pub grows_both : (old mid new : Tree) → GrowsTree old mid → GrowsTree mid new → GrowsTree old new
grows_both old mid new first second = record { keeps = keeps_both old mid new first.keeps second.keeps; ways = λ parts node h. second.ways parts node (first.ways parts node h) }

-- ---- the same branches

goes_kept : (old new : Names) → KeepsNames old new → (from : Option ℕ) (parts : List Bytes) → goes new from parts ≡ goes old from parts
goes_kept old new keeps from [] = refl
goes_kept old new keeps None (token ∷ more) = goes_kept old new keeps None more
goes_kept old new keeps (Some n) (token ∷ more) = ap (λ o. goes new o more) (keeps.at n token) ∙ goes_kept old new keeps (number_of old n token) more

pub names_kept : (old new : Tree) → IsTree old → KeepsNames old.branches new.branches → new.ids ≡ old.ids → new.next ≡ old.next → GrowsTree old new
names_kept old new is keeps ids next = record {
  keeps = record {
    tree = record {
      some = subst (λ (k : ℕ). 0 < k) (sym next) is.some;
      below = λ parts m h. subst (λ (k : ℕ). m < k) (sym next) (is.below parts m (old_way parts m h));
      fresh = λ n high. let above : old.next ≤ n = omega (arith, high, next) in
          record { no_way = λ token. keeps.at n token ∙ (is.fresh n above).no_way token; no_id = λ id. ap (λ (i : NodeIds). is_at_node i n id) ids ∙ (is.fresh n above).no_id id };
      one_way = λ a b m h k. is.one_way a b m (old_way a m h) (old_way b m k);
    };
    at = λ parts id. ap (λ (i : NodeIds). is_of_node i (goes new.branches (Some 0) parts) id) ids ∙ ap (λ o. is_of_node old.ids o id) (same' parts);
  };
  ways = λ parts m h. same' parts ∙ h;
}
  where
    same' : (parts : List Bytes) → goes new.branches (Some 0) parts ≡ goes old.branches (Some 0) parts
    same' parts = goes_kept old.branches new.branches keeps (Some 0) parts

    old_way : (parts : List Bytes) (m : ℕ) → goes new.branches (Some 0) parts ≡ Some m → goes old.branches (Some 0) parts ≡ Some m
    old_way parts m h = sym (same' parts) ∙ h

-- ---- a new branch

module _ (old new : Tree) (here : ℕ) (token : Bytes) (is : IsTree old) (reached : IsReached old.branches here) (none : number_of old.branches here token ≡ None)
    (adds : AddsName old.branches new.branches here token old.next) (ids : new.ids ≡ old.ids) (next : new.next ≡ old.next + 1) where
  abbrev one : ℕ
  one = old.next

  turns : Turns old.branches new.branches here token (Some one)
  turns = record { at = adds.at }

  low : here < one
  low = is.below reached.0 here reached.1

  bare : IsBareNode old.branches old.ids one
  bare = is.fresh one (omega arith)

  -- nothing leads on from a node that is not reached, but by the new branch
  no_way_on : (n : ℕ) → one ≤ n → (other : Bytes) → number_of new.branches n other ≡ None
  no_way_on n high other = go (here == n) refl
    where
      go : (b : Bool) → (here == n) ≡ b → number_of new.branches n other ≡ None
      go true e = let same' : here ≡ n = eqb-true here n e in absurd (omega (arith, low, high, same'))
      go false e = adds.at n other ∙ ap (λ b. cond (b && same token other) (Some one) (number_of old.branches n other)) e ∙ (is.fresh n high).no_way other

  fresh_ids : (n : ℕ) → one ≤ n → (id : ℕ) → is_at_node old.ids n id ≡ false
  fresh_ids n high id = (is.fresh n high).no_id id

  nothing_before : (parts : List Bytes) (id : ℕ) → is_of_node old.ids (goes old.branches (number_of old.branches here token) parts) id ≡ false
  nothing_before parts id = ap (λ o. is_of_node old.ids (goes old.branches o parts) id) none ∙ ap (λ o. is_of_node old.ids o id) (goes_none old.branches parts)

  nothing_after : (parts : List Bytes) (id : ℕ) → is_of_node old.ids (goes new.branches (Some one) parts) id ≡ false
  nothing_after parts id =
      bare_leads new.branches old.ids one (record { no_way = no_way_on one (omega arith); no_id = fresh_ids one (omega arith) }) old.ids parts id (fresh_ids one (omega arith) id)

  at : (parts : List Bytes) (id : ℕ) → is_under_tokens new parts id ≡ is_under_tokens old parts id
  at parts id = ap (λ (i : NodeIds). is_of_node i (goes new.branches (Some 0) parts) id) ids ∙ same_ids old.branches new.branches here token (Some one) turns old.ids nothing_before nothing_after (Some 0) parts id

  abbrev Way : List Bytes → ℕ → Type 0
  Way parts m = (goes old.branches (Some 0) parts ≡ Some m) ⊎ ((m ≡ one) × (front : List Bytes) × (parts ≡ front ++ token ∷ []) × (goes old.branches (Some 0) front ≡ Some here))

  way : (parts : List Bytes) (m : ℕ) → goes new.branches (Some 0) parts ≡ Some m → Way parts m
  way parts m h = leads old.branches new.branches here token one turns (no_way_on one (omega arith)) (Some 0) parts m h

  below : (parts : List Bytes) (m : ℕ) → goes new.branches (Some 0) parts ≡ Some m → m < new.next
  below parts m h = go (way parts m h)
    where
      go : Way parts m → m < new.next
      go (inl old') = let l : m < one = is.below parts m old' in omega (arith, l, next)
      go (inr new') = omega (arith, new'.0, next)

  one_way : (a b : List Bytes) (m : ℕ) → goes new.branches (Some 0) a ≡ Some m → goes new.branches (Some 0) b ≡ Some m → a ≡ b
  one_way a b m h k = go (way a m h) (way b m k)
    where
      go : Way a m → Way b m → a ≡ b
      go (inl x) (inl y) = is.one_way a b m x y
      go (inl x) (inr y) = let l : m < one = is.below a m x in absurd (omega (arith, l, y.0))
      go (inr x) (inl y) = let l : m < one = is.below b m y in absurd (omega (arith, l, x.0))
      go (inr x) (inr y) = x.2 ∙ ap (λ f. f ++ token ∷ []) (is.one_way x.1 y.1 here x.3 y.3) ∙ sym y.2

  fresh : (n : ℕ) → new.next ≤ n → IsBareNode new.branches new.ids n
  fresh n high =
      let above : one ≤ n = omega (arith, high, next) in
      record { no_way = no_way_on n above; no_id = λ id. ap (λ (i : NodeIds). is_at_node i n id) ids ∙ fresh_ids n above id }

  pub branches_more : GrowsTree old new
  branches_more = record {
    keeps = record { tree = record { some = omega (arith, next); below = below; fresh = fresh; one_way = one_way }; at = at };
    ways = ways_kept old.branches new.branches here token (Some one) turns none (Some 0);
  }

-- ---- a branch that is cut

module _ (old new : Tree) (here : ℕ) (token : Bytes) (is : IsTree old) (cuts : Cuts old.branches new.branches here token) (ids : new.ids ≡ old.ids) (next : new.next ≡ old.next)
    (nothing : (parts : List Bytes) (id : ℕ) → is_of_node old.ids (goes old.branches (number_of old.branches here token) parts) id ≡ false) where
  cut_turns : Turns old.branches new.branches here token None
  cut_turns = record { at = cuts.at }

  left : (parts : List Bytes) (m : ℕ) → goes new.branches (Some 0) parts ≡ Some m → goes old.branches (Some 0) parts ≡ Some m
  left parts m h = ways_left old.branches new.branches here token cut_turns (Some 0) parts m h

  still_bare : (n : ℕ) → old.next ≤ n → (other : Bytes) → number_of new.branches n other ≡ None
  still_bare n high other = go (here == n && same token other) refl
    where
      go : (b : Bool) → (here == n && same token other) ≡ b → number_of new.branches n other ≡ None
      go true e = cuts.at n other ∙ ap (λ b. cond b None (number_of old.branches n other)) e
      go false e = cuts.at n other ∙ ap (λ b. cond b None (number_of old.branches n other)) e ∙ (is.fresh n high).no_way other

  pub branches_less : KeepsTree old new
  branches_less = record {
    tree = record {
      some = subst (λ (k : ℕ). 0 < k) (sym next) is.some;
      below = λ parts m h. subst (λ (k : ℕ). m < k) (sym next) (is.below parts m (left parts m h));
      fresh = λ n high. let above : old.next ≤ n = omega (arith, high, next) in
          record { no_way = still_bare n above; no_id = λ id. ap (λ (i : NodeIds). is_at_node i n id) ids ∙ (is.fresh n above).no_id id };
      one_way = λ a b m h k. is.one_way a b m (left a m h) (left b m k);
    };
    at = λ parts id. ap (λ (i : NodeIds). is_of_node i (goes new.branches (Some 0) parts) id) ids
        ∙ same_ids old.branches new.branches here token None cut_turns old.ids nothing (λ ps n. ap (λ o. is_of_node old.ids o n) (goes_none new.branches ps)) (Some 0) parts id;
  }

-- ---- numbers at the nodes

module _ (old new : Tree) (branches : new.branches ≡ old.branches) (next : new.next ≡ old.next) (is : IsTree old) where
  -- the same branches are a tree, if the nodes to come have no number
  same_branches : ((n : ℕ) → old.next ≤ n → (id : ℕ) → is_at_node new.ids n id ≡ false) → IsTree new
  same_branches empty = record {
    some = subst (λ (k : ℕ). 0 < k) (sym next) is.some;
    below = λ parts m h. subst (λ (k : ℕ). m < k) (sym next) (is.below parts m (ap (λ (b : Names). goes b (Some 0) parts) (sym branches) ∙ h));
    fresh = λ n high. let above : old.next ≤ n = omega (arith, high, next) in
        record { no_way = λ token. ap (λ (b : Names). number_of b n token) branches ∙ (is.fresh n above).no_way token; no_id = empty n above };
    one_way = λ a b m h k. is.one_way a b m (ap (λ (x : Names). goes x (Some 0) a) (sym branches) ∙ h) (ap (λ (x : Names). goes x (Some 0) b) (sym branches) ∙ k);
  }

  under_old : (parts : List Bytes) (id : ℕ) → is_under_tokens new parts id ≡ is_of_node new.ids (goes old.branches (Some 0) parts) id
  under_old parts id = ap (λ (b : Names). is_of_node new.ids (goes b (Some 0) parts) id) branches

  pub ids_kept : KeepsNodes old.ids new.ids → KeepsTree old new
  ids_kept keeps = record { tree = same_branches (λ n high id. keeps.at n id ∙ (is.fresh n high).no_id id); at = λ parts id. under_old parts id ∙ go (goes old.branches (Some 0) parts) id }
    where
      go : (o : Option ℕ) (id : ℕ) → is_of_node new.ids o id ≡ is_of_node old.ids o id
      go None id = refl
      go (Some n) id = keeps.at n id

  module _ (here : List Bytes) (node one : ℕ) (there : goes old.branches (Some 0) here ≡ Some node) where
    -- a node is that one exactly if the tokens that lead to it are these
    is_node : (parts : List Bytes) (n : ℕ) → goes old.branches (Some 0) parts ≡ Some n → (node == n) ≡ same_tokens here parts
    is_node parts n h = go (node == n) (same_tokens here parts) refl refl
      where
        go : (a b : Bool) → (node == n) ≡ a → same_tokens here parts ≡ b → a ≡ b
        go true true e f = refl
        go true false e f =
            let path : here ≡ parts = is.one_way here parts node there (h ∙ ap (λ k. Some k) (sym (eqb-true node n e))) in
            absurd (true≢false (sym (tokens_self here) ∙ ap (same_tokens here) path ∙ f))
        go false true e f =
            let path : here ≡ parts = tokens_are here parts f in
            absurd (true≢false (sym (eq-eqb node n (some_is (sym there ∙ ap (goes old.branches (Some 0)) path ∙ h))) ∙ e))
        go false false e f = refl

    no_node : (parts : List Bytes) → goes old.branches (Some 0) parts ≡ None → same_tokens here parts ≡ false
    no_node parts h = go (same_tokens here parts) refl
      where
        go : (b : Bool) → same_tokens here parts ≡ b → b ≡ false
        go true e = absurd (none_some (sym h ∙ ap (goes old.branches (Some 0)) (sym (tokens_are here parts e)) ∙ there))
        go false e = refl

    not_fresh : (n : ℕ) → old.next ≤ n → (node == n) ≡ false
    not_fresh n high = go (node == n) refl
      where
        go : (b : Bool) → (node == n) ≡ b → b ≡ false
        go true e = let l : node < old.next = is.below here node there in let s : node ≡ n = eqb-true node n e in absurd (omega (arith, l, s, high))
        go false e = refl

    pub ids_more : AddsAt old.ids new.ids node one → AddsToTree old new here one
    ids_more adds = record {
      tree = same_branches (λ n high id. adds.at n id ∙ ap (λ b. is_at_node old.ids n id || (b && one == id)) (not_fresh n high) ∙ or_false (is_at_node old.ids n id) ∙ (is.fresh n high).no_id id);
      at = λ parts id. under_old parts id ∙ go parts id (goes old.branches (Some 0) parts) refl;
    }
      where
        go : (parts : List Bytes) (id : ℕ) (o : Option ℕ) → goes old.branches (Some 0) parts ≡ o → is_of_node new.ids o id ≡ (is_of_node old.ids o id || (same_tokens here parts && one == id))
        go parts id None e = sym (ap (λ b. b && one == id) (no_node parts e))
        go parts id (Some n) e = adds.at n id ∙ ap (λ b. is_at_node old.ids n id || (b && one == id)) (is_node parts n e)

    pub ids_less : DropsAt old.ids new.ids node one → DropsFromTree old new here one
    ids_less drops = record {
      tree = same_branches (λ n high id. drops.at n id ∙ ap (λ b. b && not (node == n && one == id)) ((is.fresh n high).no_id id));
      at = λ parts id. under_old parts id ∙ go parts id (goes old.branches (Some 0) parts) refl;
    }
      where
        go : (parts : List Bytes) (id : ℕ) (o : Option ℕ) → goes old.branches (Some 0) parts ≡ o → is_of_node new.ids o id ≡ (is_of_node old.ids o id && not (same_tokens here parts && one == id))
        go parts id None e = refl
        go parts id (Some n) e = drops.at n id ∙ ap (λ b. is_at_node old.ids n id && not (b && one == id)) (is_node parts n e)

-- no number is under tokens that lead nowhere
pub drops_nothing : (tree : Tree) (here : List Bytes) (one : ℕ) → IsTree tree → goes tree.branches (Some 0) here ≡ None → DropsFromTree tree tree here one
drops_nothing tree here one is none = record { tree = is; at = λ parts id. go parts id (same_tokens here parts) refl }
  where
    kept : (b : Bool) → b ≡ (b && not false)
    kept true = refl
    kept false = refl

    go : (parts : List Bytes) (id : ℕ) (b : Bool) → same_tokens here parts ≡ b → is_under_tokens tree parts id ≡ (is_under_tokens tree parts id && not (b && one == id))
    go parts id true e =
        let absent : is_under_tokens tree parts id ≡ false = ap (λ ps. is_under_tokens tree ps id) (sym (tokens_are here parts e)) ∙ ap (λ o. is_of_node tree.ids o id) none in
        absent ∙ sym (ap (λ x. x && not (one == id)) absent)
    go parts id false e = kept (is_under_tokens tree parts id)

-- ---- on the way of a text

-- the tokens so far lead to the node, and what is left of the text goes on
pub record IsOnWay (old new : Tree) (text : Bytes) (rest : Option Bytes) (node : ℕ) : Type 0 where
  pub grows : GrowsTree old new
  pub done : List Bytes
  pub parts : tokens text ≡ done ++ tokens_left rest
  pub there : goes new.branches (Some 0) done ≡ Some node

pub way_begins : (tree : Tree) (text : Bytes) → IsTree tree → IsOnWay tree tree text (Some text) 0
way_begins tree text is = record { grows = grows_self tree is; done = []; parts = refl; there = refl }

pub reached_by : (old new : Tree) (text : Bytes) (rest : Option Bytes) (node : ℕ) → IsOnWay old new text rest node → IsReached new.branches node
reached_by old new text rest node on = (on.done, on.there)

pub way_goes_on : (old mid new : Tree) (text : Bytes) (left : Option Bytes) (rest token : Bytes) (more : Option Bytes) (node next : ℕ) → left ≡ Some rest → IsOnWay old mid text left node
    → tokens rest ≡ token ∷ tokens_left more → GrowsTree mid new → step new.branches (Some node) token ≡ Some next → IsOnWay old new text more next
way_goes_on old mid new text left rest token more node next some on split grows leads = record {
  grows = grows_both old mid new on.grows grows;
  done = on.done ++ token ∷ [];
  parts = on.parts ∙ ap (λ ts. on.done ++ ts) (ap tokens_left some ∙ split) ∙ sym (append_assoc on.done (token ∷ []) (tokens_left more));
  there = goes_last new.branches (Some 0) on.done token ∙ ap (λ o. step new.branches o token) (grows.ways on.done node on.there) ∙ leads;
}

pub way_ends : (old new : Tree) (text : Bytes) (left : Option Bytes) (node : ℕ) → left ≡ None → IsOnWay old new text left node → goes new.branches (Some 0) (tokens text) ≡ Some node
way_ends old new text left node none on = ap (goes new.branches (Some 0)) (on.parts ∙ ap (λ l. on.done ++ tokens_left l) none ∙ append-nil on.done) ∙ on.there
