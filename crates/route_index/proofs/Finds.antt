-- What the search of a tree finds: the numbers under the tokens that match the subject.
use Rattle.std.proofs.Common.{◌≡◌, inl, inr, ℕ, ◌==◌, ◌&&◌, ◌||◌, Bool, true, false, List, [], ◌∷◌, ◌++◌, Option, Some, None, refl, sym, ap, ◌∙◌, eq-eqb, append_assoc, append-nil}
use Rattle.std.specs.List.{list_any}
use Rattle.std.specs.Ordering.{nat_cmp}
use Rattle.std.specs.BTreeMap.{get}
use Rattle.std.specs.BTreeSet.{BTreeSet}
use Rattle.std.proofs.lemmas.Bool.{true≢false, eqb-true, and_parts, and_from}
use Rattle.std.proofs.lemmas.List.Folds.{list_any-append}
use Rattle.js_base.specs.Bytes.{Bytes, is_empty, same, has}
use Rattle.js_base.specs.Subjects.{tokens, matches, star, rest}
use Rattle.js_base.proofs.Meeting.{same_is, same_self}
use Rattle.subject_match.specs.Tokens.{tokens_left}
use Rattle.route_index.specs.declared.tree.Tree.{Tree}
use Rattle.route_index.specs.declared.seek.Seek.TheVariants.{Matching}
use Rattle.route_index.specs.Ids.{Patterns, is_in, subs_of}
use Rattle.route_index.specs.Subs.{matching_ids}
use Rattle.route_index.specs.NodeIds.{NodeIds, numbers_in, ids_at}
use Rattle.route_index.specs.Tree.{step, goes, ids_of, is_of_node, found_at, has_tokens, Shows}
use Rattle.route_index.proofs.Finding.{either, or_left, or_right}
use Rattle.route_index.proofs.Numbers.{has_number}
use Rattle.route_index.proofs.Ways.{tokens_are, tokens_self}
use Rattle.route_index.proofs.Listing.{sought_of, sought_has}
use Rattle.route_index.proofs.Whole.{both}

no_more : (ts : List Bytes) → is_empty ts ≡ true → ts ≡ []
no_more [] h = refl
no_more (t ∷ ts) h = absurd (true≢false (sym h))

in_set : (set : Option (BTreeSet ℕ)) (id : ℕ) → has (numbers_in set) id ≡ is_in set id
in_set None id = refl
in_set (Some set) id = sym (has_number set.keys id)

-- the numbers of a node are those that it has
of_node : (ids : NodeIds) (node : Option ℕ) (id : ℕ) → has (ids_of ids node) id ≡ is_of_node ids node id
of_node ids None id = refl
of_node ids (Some node) id = in_set (get nat_cmp ids node) id

in_either : (xs ys : List ℕ) (id : ℕ) → has (xs ++ ys) id ≡ (has xs id || has ys id)
in_either xs ys id = list_any-append (λ m. m == id) xs ys

-- nothing is found from no node
pub found_none : (tree : Tree) (parts : List Bytes) → found_at tree None parts ≡ []
found_none tree [] = refl
found_none tree (token ∷ more) = ap (λ xs. xs ++ found_at tree None more) (found_none tree more) ∙ found_none tree more

module _ (tree : Tree) where
  -- what is found by a last `>`, by `*` and by a token
  abbrev ends : Option ℕ → List ℕ
  ends node = ids_of tree.ids (step tree.branches node rest)

  abbrev stars : Option ℕ → List Bytes → List ℕ
  stars node more = found_at tree (step tree.branches node star) more

  abbrev exact : Option ℕ → Bytes → List Bytes → List ℕ
  exact node token more = found_at tree (step tree.branches node token) more

  -- some tokens that match what is left of the subject lead to a node with the number
  pub record Leads (node : Option ℕ) (parts : List Bytes) (id : ℕ) : Type 0 where
    pub way : List Bytes
    pub fits : matches way parts ≡ true
    pub there : is_of_node tree.ids (goes tree.branches node way) id ≡ true

  further : (first token : Bytes) (from : Option ℕ) (more : List Bytes) (id : ℕ) → (same first star || same first token) ≡ true → Leads (step tree.branches from first) more id → Leads from (token ∷ more) id
  further first token from more id h l = record {
    way = first ∷ l.way;
    fits = or_right (same first rest && is_empty l.way) _ (and_from _ _ h l.fits);
    there = l.there;
  }

  pub found_leads : (from : Option ℕ) (parts : List Bytes) (id : ℕ) → has (found_at tree from parts) id ≡ true → Leads from parts id
  found_leads from [] id h = record { way = []; fits = refl; there = sym (of_node tree.ids from id) ∙ h }
  found_leads from (token ∷ more) id h = elim (either (has (ends from) id) (has (stars from more ++ exact from token more) id) (sym (in_either (ends from) (stars from more ++ exact from token more) id) ∙ h)) [
    | inl end ↦ record { way = rest ∷ []; fits = refl; there = sym (of_node tree.ids (step tree.branches from rest) id) ∙ end }
    | inr on ↦ elim (either (has (stars from more) id) (has (exact from token more) id) (sym (in_either (stars from more) (exact from token more) id) ∙ on)) [
      | inl by_star ↦ further star token from more id refl (found_leads (step tree.branches from star) more id by_star)
      | inr by_token ↦ further token token from more id (or_right (same token star) _ (same_self token)) (found_leads (step tree.branches from token) more id by_token)
    ]
  ]

  pub leads_found : (from : Option ℕ) (parts way : List Bytes) (id : ℕ) → matches way parts ≡ true → is_of_node tree.ids (goes tree.branches from way) id ≡ true → has (found_at tree from parts) id ≡ true
  leads_found from [] [] id h k = of_node tree.ids from id ∙ k
  leads_found from [] (first ∷ way) id h k = absurd (true≢false (sym h))
  leads_found from (token ∷ more) [] id h k = absurd (true≢false (sym h))
  leads_found from (token ∷ more) (first ∷ way) id h k = elim (either (same first rest && is_empty way) ((same first star || same first token) && matches way more) h) [
    | inl end ↦
        let parts = and_parts (same first rest) (is_empty way) end in
        by_end (of_node tree.ids (step tree.branches from rest) id
        ∙ ap (λ t. is_of_node tree.ids (step tree.branches from t) id) (sym (same_is first rest parts.0))
        ∙ ap (λ w. is_of_node tree.ids (goes tree.branches (step tree.branches from first) w) id) (sym (no_more way parts.1)) ∙ k)
    | inr on ↦
        let parts = and_parts (same first star || same first token) (matches way more) on in
        elim (either (same first star) (same first token) parts.0) [
          | inl s ↦ by_star (leads_found (step tree.branches from star) more way id parts.1 (by_first star s))
          | inr s ↦ by_token (leads_found (step tree.branches from token) more way id parts.1 (by_first token s))
        ]
  ]
    where
      by_first : (t : Bytes) → same first t ≡ true → is_of_node tree.ids (goes tree.branches (step tree.branches from t) way) id ≡ true
      by_first t s = ap (λ u. is_of_node tree.ids (goes tree.branches (step tree.branches from u) way) id) (sym (same_is first t s)) ∙ k

      by_end : has (ends from) id ≡ true → has (ends from ++ (stars from more ++ exact from token more)) id ≡ true
      by_end e = in_either (ends from) (stars from more ++ exact from token more) id ∙ or_left _ _ e

      by_star : has (stars from more) id ≡ true → has (ends from ++ (stars from more ++ exact from token more)) id ≡ true
      by_star e = in_either (ends from) (stars from more ++ exact from token more) id ∙ or_right (has (ends from) id) _ (in_either (stars from more) (exact from token more) id ∙ or_left _ _ e)

      by_token : has (exact from token more) id ≡ true → has (ends from ++ (stars from more ++ exact from token more)) id ≡ true
      by_token e = in_either (ends from) (stars from more ++ exact from token more) id ∙ or_right (has (ends from) id) _ (in_either (stars from more) (exact from token more) id ∙ or_right (has (stars from more) id) _ e)

-- ---- the steps of a search

-- from no node
pub found_nowhere : (tree : Tree) (from : Option ℕ) (parts : List Bytes) (old : List ℕ) → from ≡ None → old ≡ old ++ found_at tree from parts
found_nowhere tree from parts old none = sym (ap (λ o. old ++ found_at tree o parts) none ∙ ap (λ xs. old ++ xs) (found_none tree parts) ∙ append-nil old)

pub any_nowhere : (tree : Tree) (from : Option ℕ) (parts : List Bytes) (test : ℕ → Bool) → from ≡ None → false ≡ list_any test (found_at tree from parts)
any_nowhere tree from parts test none = sym (ap (λ o. list_any test (found_at tree o parts)) none ∙ ap (list_any test) (found_none tree parts))

-- at the end of the subject
pub found_here : (tree : Tree) (from : Option ℕ) (left : Option Bytes) (at : ℕ) → from ≡ Some at → left ≡ None → ids_at tree.ids at ≡ found_at tree from (tokens_left left)
found_here tree from left at here none = sym (ap (λ o. found_at tree o (tokens_left left)) here ∙ ap (λ l. found_at tree (Some at) (tokens_left l)) none)

-- at a token of it: by a last `>`, by `*` and by the token
module _ (tree : Tree) (from : Option ℕ) (left : Option Bytes) (at : ℕ) (text token : Bytes) (more : List Bytes) (here : from ≡ Some at) (some : left ≡ Some text) (split : tokens text ≡ token ∷ more) where
  found_split : found_at tree from (tokens_left left) ≡ ends tree (Some at) ++ (stars tree (Some at) more ++ exact tree (Some at) token more)
  found_split = ap (λ o. found_at tree o (tokens_left left)) here ∙ ap (λ l. found_at tree (Some at) (tokens_left l)) some ∙ ap (found_at tree (Some at)) split

  pub found_by_all : (by_rest by_star by_token : Option ℕ) → by_rest ≡ step tree.branches (Some at) rest → by_star ≡ step tree.branches (Some at) star → by_token ≡ step tree.branches (Some at) token
      → (old first second new : List ℕ) → first ≡ old ++ found_at tree by_rest [] → second ≡ first ++ found_at tree by_star more → new ≡ second ++ found_at tree by_token more → new ≡ old ++ found_at tree from (tokens_left left)
  found_by_all by_rest by_star by_token e f g old first second new a b c =
      c ∙ ap (λ o. second ++ found_at tree o more) g
      ∙ ap (λ xs. xs ++ (exact tree (Some at) token more)) (b ∙ ap (λ o. first ++ found_at tree o more) f ∙ ap (λ xs. xs ++ (stars tree (Some at) more)) (a ∙ ap (λ o. old ++ found_at tree o []) e))
      ∙ append_assoc (old ++ (ends tree (Some at))) (stars tree (Some at) more) (exact tree (Some at) token more) ∙ append_assoc old (ends tree (Some at)) (stars tree (Some at) more ++ exact tree (Some at) token more) ∙ ap (λ xs. old ++ xs) (sym found_split)

  module _ (test : ℕ → Bool) where
    any_split : (list_any test (ends tree (Some at)) || (list_any test (stars tree (Some at) more) || list_any test (exact tree (Some at) token more))) ≡ list_any test (found_at tree from (tokens_left left))
    any_split =
        sym (ap (list_any test) found_split ∙ list_any-append test (ends tree (Some at)) (stars tree (Some at) more ++ exact tree (Some at) token more) ∙ ap (λ b. list_any test (ends tree (Some at)) || b) (list_any-append test (stars tree (Some at) more) (exact tree (Some at) token more)))

    pub any_by_rest : (by_rest : Option ℕ) → by_rest ≡ step tree.branches (Some at) rest → true ≡ list_any test (found_at tree by_rest []) → true ≡ list_any test (found_at tree from (tokens_left left))
    any_by_rest by_rest e h = ap (λ b. b || (list_any test (stars tree (Some at) more) || list_any test (exact tree (Some at) token more))) (h ∙ ap (λ o. list_any test (found_at tree o [])) e) ∙ any_split

    module _ (by_rest by_star : Option ℕ) (e : by_rest ≡ step tree.branches (Some at) rest) (f : by_star ≡ step tree.branches (Some at) star) (no_rest : false ≡ list_any test (found_at tree by_rest [])) where
      no_end : false ≡ list_any test (ends tree (Some at))
      no_end = no_rest ∙ ap (λ o. list_any test (found_at tree o [])) e

      pub any_by_star : true ≡ list_any test (found_at tree by_star more) → true ≡ list_any test (found_at tree from (tokens_left left))
      any_by_star h =
          ap (λ b. b || list_any test (exact tree (Some at) token more)) (h ∙ ap (λ o. list_any test (found_at tree o more)) f) ∙ ap (λ b. b || (list_any test (stars tree (Some at) more) || list_any test (exact tree (Some at) token more))) no_end ∙ any_split

      pub any_by_token : (by_token : Option ℕ) (result : Bool) → by_token ≡ step tree.branches (Some at) token → false ≡ list_any test (found_at tree by_star more) → result ≡ list_any test (found_at tree by_token more)
          → result ≡ list_any test (found_at tree from (tokens_left left))
      any_by_token by_token result g no_star h =
          h ∙ ap (λ o. list_any test (found_at tree o more)) g ∙ ap (λ b. b || list_any test (exact tree (Some at) token more)) (no_star ∙ ap (λ o. list_any test (found_at tree o more)) f)
          ∙ ap (λ b. b || (list_any test (stars tree (Some at) more) || list_any test (exact tree (Some at) token more))) no_end ∙ any_split

-- ---- the whole

module _ (patterns : Patterns) (tree : Tree) (shows : Shows patterns tree) (subject : Bytes) where
  found_sought : (id : ℕ) → has (found_at tree (Some 0) (tokens subject)) id ≡ sought_of Matching subject (get nat_cmp patterns id)
  found_sought id = both (has (found_at tree (Some 0) (tokens subject)) id) (sought_of Matching subject (get nat_cmp patterns id)) only (all (get nat_cmp patterns id) refl)
    where
      sought : (way : List Bytes) (o : Option Bytes) → matches way (tokens subject) ≡ true → has_tokens o way ≡ true → sought_of Matching subject o ≡ true
      sought way None h k = absurd (true≢false (sym k))
      sought way (Some own) h k = ap (λ ts. matches ts (tokens subject)) (tokens_are (tokens own) way k) ∙ h

      only : has (found_at tree (Some 0) (tokens subject)) id ≡ true → sought_of Matching subject (get nat_cmp patterns id) ≡ true
      only h = let l = found_leads tree (Some 0) (tokens subject) id h in sought l.way (get nat_cmp patterns id) l.fits (sym (shows.at l.way id) ∙ l.there)

      all : (o : Option Bytes) → get nat_cmp patterns id ≡ o → sought_of Matching subject (get nat_cmp patterns id) ≡ true → has (found_at tree (Some 0) (tokens subject)) id ≡ true
      all None e h = absurd (true≢false (sym h ∙ ap (sought_of Matching subject) e))
      all (Some own) e h =
          leads_found tree (Some 0) (tokens subject) (tokens own) id (sym (ap (sought_of Matching subject) e) ∙ h)
          (shows.at (tokens own) id ∙ ap (λ o. has_tokens o (tokens own)) e ∙ tokens_self (tokens own))

  pub found_matching : (id : ℕ) → has (found_at tree (Some 0) (tokens subject)) id ≡ has (matching_ids subject (subs_of patterns)) id
  found_matching id = found_sought id ∙ sym (sought_has Matching subject id patterns.entries shows.ordered)

-- ---- a test

module _ (test : ℕ → Bool) where
  passes_by : (xs : List ℕ) (x : ℕ) → has xs x ≡ true → test x ≡ true → list_any test xs ≡ true
  passes_by [] x h k = absurd (true≢false (sym h))
  passes_by (y ∷ xs) x h k = elim (either (y == x) (has xs x) h) [
    | inl here ↦ or_left _ _ (ap test (eqb-true y x here) ∙ k)
    | inr there ↦ or_right (test y) _ (passes_by xs x there k)
  ]

  passing : (xs : List ℕ) → list_any test xs ≡ true → (x : ℕ) × (has xs x ≡ true) × (test x ≡ true)
  passing [] h = absurd (true≢false (sym h))
  passing (y ∷ xs) h = elim (either (test y) (list_any test xs) h) [
    | inl here ↦ (y, or_left _ _ (eq-eqb y y refl), here)
    | inr there ↦ let p = passing xs there in (p.0, or_right (y == p.0) _ p.1, p.2)
  ]

  -- lists with the same members pass alike
  pub passes_alike : (xs ys : List ℕ) → ((x : ℕ) → has xs x ≡ has ys x) → list_any test xs ≡ list_any test ys
  passes_alike xs ys alike = both (list_any test xs) (list_any test ys)
      (λ h. let p = passing xs h in passes_by ys p.0 (sym (alike p.0) ∙ p.1) p.2)
      (λ h. let p = passing ys h in passes_by xs p.0 (alike p.0 ∙ p.1) p.2)
