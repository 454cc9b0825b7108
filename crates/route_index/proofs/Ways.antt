-- Where tokens lead in a tree, before and after a branch is made or cut.
use Rattle.std.proofs.Common.{◌≡◌, ◌⊎◌, inl, inr, ℕ, ◌==◌, ◌&&◌, Bool, true, false, cond, List, [], ◌∷◌, ◌++◌, Option, Some, None, refl, sym, ap, ◌∙◌, eq-eqb}
use Rattle.std.proofs.lemmas.Bool.{true≢false, eqb-true, and_parts}
use Rattle.js_base.specs.Bytes.{Bytes, same}
use Rattle.js_base.specs.Subjects.{tokens}
use Rattle.js_base.proofs.Meeting.{same_is, same_self}
use Rattle.subject_match.specs.Tokens.{tokens_left}
use Rattle.route_index.specs.declared.names.Names.{Names}
use Rattle.route_index.specs.Names.{number_of, AddsName}
use Rattle.route_index.specs.NodeIds.{NodeIds, is_at_node}
use Rattle.route_index.specs.Tree.{step, goes, is_of_node, IsBareNode, same_tokens}

pub some_is : {X : Type 0} {a b : X} → Some a ≡ Some b → a ≡ b
some_is h = cc

pub none_some : {X : Type 0} {a : X} → None ≡ Some a → ⊥
none_some h = cc

-- no token leads on from no node
pub goes_none : (branches : Names) (parts : List Bytes) → goes branches None parts ≡ None
goes_none branches [] = refl
goes_none branches (token ∷ more) = goes_none branches more

-- one token more
pub goes_last : (branches : Names) (from : Option ℕ) (parts : List Bytes) (token : Bytes) → goes branches from (parts ++ token ∷ []) ≡ step branches (goes branches from parts) token
goes_last branches from [] token = refl
goes_last branches from (first ∷ more) token = goes_last branches (step branches from first) more token

-- what is left of a text after its first token
pub goes_split : (branches : Names) (node : Option ℕ) (left : Option Bytes) (text token : Bytes) (more : List Bytes) (next : Option ℕ) → left ≡ Some text → tokens text ≡ token ∷ more → next ≡ step branches node token
    → goes branches next more ≡ goes branches node (tokens_left left)
goes_split branches node left text token more next some split leads =
    ap (λ o. goes branches o more) leads ∙ sym (ap (λ l. goes branches node (tokens_left l)) some ∙ ap (goes branches node) split)

pub tokens_are : (a b : List Bytes) → same_tokens a b ≡ true → a ≡ b
tokens_are [] [] h = refl
tokens_are [] (t ∷ b) h = absurd (true≢false (sym h))
tokens_are (t ∷ a) [] h = absurd (true≢false (sym h))
tokens_are (t ∷ a) (u ∷ b) h =
    let both = and_parts (same t u) (same_tokens a b) h in
    ap (λ x. x ∷ a) (same_is t u both.0) ∙ ap (λ xs. u ∷ xs) (tokens_are a b both.1)

pub tokens_self : (a : List Bytes) → same_tokens a a ≡ true
tokens_self [] = refl
tokens_self (t ∷ a) = ap (λ b. b && same_tokens a a) (same_self t) ∙ tokens_self a

-- ---- a new text

pub adds_leads : (old new : Names) (here : ℕ) (token : Bytes) (number : ℕ) → AddsName old new here token number → number_of new here token ≡ Some number
adds_leads old new here token number adds =
    adds.at here token ∙ ap (λ b. cond b (Some number) (number_of old here token)) (ap (λ b. b && same token token) (eq-eqb here here refl) ∙ same_self token)

-- ---- from a node at which nothing is

module _ (branches : Names) (ids : NodeIds) (node : ℕ) (bare : IsBareNode branches ids node) where
  -- .. no number is found on
  pub bare_leads : (ids' : NodeIds) (parts : List Bytes) (id : ℕ) → is_at_node ids' node id ≡ false → is_of_node ids' (goes branches (Some node) parts) id ≡ false
  bare_leads ids' [] id h = h
  bare_leads ids' (token ∷ more) id h = ap (λ o. is_of_node ids' (goes branches o more) id) (bare.no_way token) ∙ ap (λ o. is_of_node ids' o id) (goes_none branches more)

-- ---- one branch is another now

-- the branch from one node by one token leads elsewhere now, or nowhere, and the others lead where they led
pub record Turns (old new : Names) (here : ℕ) (token : Bytes) (to : Option ℕ) : Type 0 where
  pub at : (n : ℕ) (other : Bytes) → number_of new n other ≡ cond (here == n && same token other) to (number_of old n other)

module _ (old new : Names) (here : ℕ) (token : Bytes) (to : Option ℕ) (turns : Turns old new here token to) where
  abbrev Hits : ℕ → Bytes → Bool
  Hits n other = here == n && same token other

  turned : (n : ℕ) (other : Bytes) → Hits n other ≡ true → number_of new n other ≡ to
  turned n other e = turns.at n other ∙ ap (λ b. cond b to (number_of old n other)) e

  stayed : (n : ℕ) (other : Bytes) → Hits n other ≡ false → number_of new n other ≡ number_of old n other
  stayed n other e = turns.at n other ∙ ap (λ b. cond b to (number_of old n other)) e

  was_hit : (n : ℕ) (other : Bytes) → Hits n other ≡ true → number_of old n other ≡ number_of old here token
  was_hit n other e =
      let both = and_parts (here == n) (same token other) e in
      ap (λ m. number_of old m other) (sym (eqb-true here n both.0)) ∙ ap (number_of old here) (sym (same_is token other both.1))

  -- numbers are where they were, if none is behind the branch
  module _ (ids : NodeIds) (before : (parts : List Bytes) (id : ℕ) → is_of_node ids (goes old (number_of old here token) parts) id ≡ false)
      (after : (parts : List Bytes) (id : ℕ) → is_of_node ids (goes new to parts) id ≡ false) where
    pub same_ids : (from : Option ℕ) (parts : List Bytes) (id : ℕ) → is_of_node ids (goes new from parts) id ≡ is_of_node ids (goes old from parts) id
    same_ids from [] id = refl
    same_ids None (other ∷ more) id = same_ids None more id
    same_ids (Some n) (other ∷ more) id = go (Hits n other) refl (same_ids (number_of old n other) more id)
      where
        go : (b : Bool) → Hits n other ≡ b → is_of_node ids (goes new (number_of old n other) more) id ≡ is_of_node ids (goes old (number_of old n other) more) id
            → is_of_node ids (goes new (number_of new n other) more) id ≡ is_of_node ids (goes old (number_of old n other) more) id
        go true e further =
            ap (λ o. is_of_node ids (goes new o more) id) (turned n other e) ∙ after more id
            ∙ sym (ap (λ o. is_of_node ids (goes old o more) id) (was_hit n other e) ∙ before more id)
        go false e further = ap (λ o. is_of_node ids (goes new o more) id) (stayed n other e) ∙ further

  -- a branch that led nowhere: the old ways lead where they led
  pub ways_kept : number_of old here token ≡ None → (from : Option ℕ) (parts : List Bytes) (m : ℕ) → goes old from parts ≡ Some m → goes new from parts ≡ Some m
  ways_kept none from [] m h = h
  ways_kept none None (other ∷ more) m h = ways_kept none None more m h
  ways_kept none (Some n) (other ∷ more) m h = go (Hits n other) refl (ways_kept none (number_of old n other) more m h)
    where
      go : (b : Bool) → Hits n other ≡ b → goes new (number_of old n other) more ≡ Some m → goes new (number_of new n other) more ≡ Some m
      go true e further = absurd (none_some (sym (goes_none old more) ∙ ap (λ o. goes old o more) (sym (was_hit n other e ∙ none)) ∙ h))
      go false e further = ap (λ o. goes new o more) (stayed n other e) ∙ further

-- a branch that is cut: what ways are left lead where they led
pub ways_left : (old new : Names) (here : ℕ) (token : Bytes) → Turns old new here token None → (from : Option ℕ) (parts : List Bytes) (m : ℕ) → goes new from parts ≡ Some m → goes old from parts ≡ Some m
ways_left old new here token turns from [] m h = h
ways_left old new here token turns None (other ∷ more) m h = ways_left old new here token turns None more m h
ways_left old new here token turns (Some n) (other ∷ more) m h = go (here == n && same token other) refl (ways_left old new here token turns (number_of old n other) more m)
  where
    go : (b : Bool) → (here == n && same token other) ≡ b → (goes new (number_of old n other) more ≡ Some m → goes old (number_of old n other) more ≡ Some m) → goes old (number_of old n other) more ≡ Some m
    go true e further = absurd (none_some (sym (goes_none new more) ∙ ap (λ o. goes new o more) (sym (turned old new here token None turns n other e)) ∙ h))
    go false e further = further (ap (λ o. goes new o more) (sym (stayed old new here token None turns n other e)) ∙ h)

-- ---- a new node

module _ (old new : Names) (here : ℕ) (token : Bytes) (one : ℕ) (turns : Turns old new here token (Some one)) (bare : (other : Bytes) → number_of new one other ≡ None) where
  -- a way of the new tree is one of the old, or leads by the new branch to the new node
  abbrev Leads : Option ℕ → List Bytes → ℕ → Type 0
  Leads node parts m = (goes old node parts ≡ Some m) ⊎ ((m ≡ one) × (front : List Bytes) × (parts ≡ front ++ token ∷ []) × (goes old node front ≡ Some here))

  at_new : (parts : List Bytes) (m : ℕ) → goes new (Some one) parts ≡ Some m → (m ≡ one) × (parts ≡ [])
  at_new [] m h = (sym (some_is h), refl)
  at_new (other ∷ more) m h = absurd (none_some (sym (goes_none new more) ∙ ap (λ o. goes new o more) (sym (bare other)) ∙ h))

  pub leads : (from : Option ℕ) (parts : List Bytes) (m : ℕ) → goes new from parts ≡ Some m → Leads from parts m
  leads from [] m h = inl h
  leads None (other ∷ more) m h = absurd (none_some (sym (goes_none new more) ∙ h))
  leads (Some n) (other ∷ more) m h = go (here == n && same token other) refl (leads (number_of old n other) more m)
    where
      further : Leads (number_of old n other) more m → Leads (Some n) (other ∷ more) m
      further (inl way) = inl way
      further (inr way) = inr (way.0, other ∷ way.1, ap (λ xs. other ∷ xs) way.2, way.3)

      go : (b : Bool) → (here == n && same token other) ≡ b → (goes new (number_of old n other) more ≡ Some m → Leads (number_of old n other) more m) → Leads (Some n) (other ∷ more) m
      go true e on =
          let both = and_parts (here == n) (same token other) e in
          let end = at_new more m (ap (λ o. goes new o more) (sym (turned old new here token (Some one) turns n other e)) ∙ h) in
          inr (end.0, [], ap (λ xs. other ∷ xs) end.1 ∙ ap (λ x. x ∷ []) (sym (same_is token other both.1)), ap (λ k. Some k) (sym (eqb-true here n both.0)))
      go false e on = further (on (ap (λ o. goes new o more) (sym (stayed old new here token (Some one) turns n other e)) ∙ h))
