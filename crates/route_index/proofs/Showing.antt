-- A tree that shows the patterns of the numbers shows them again after a number more or less.
use Rattle.std.proofs.Common.{◌≡◌, ℕ, ◌==◌, ◌&&◌, ◌||◌, not, Bool, true, false, cond, List, Some, None, refl, sym, ap, subst, ◌∙◌}
use Rattle.std.specs.List.Sorted.{IsStrictlySortedBy}
use Rattle.std.specs.Ordering.{nat_cmp}
use Rattle.std.specs.Map.{keys_of, lookup}
use Rattle.std.specs.BTreeMap.{get, IsEmpty}
use Rattle.std.proofs.lemmas.Bool.{eqb-true, true≢false, and_parts}
use Rattle.js_base.specs.Bytes.{Bytes}
use Rattle.js_base.specs.Subjects.{tokens}
use Rattle.route_index.specs.declared.tree.Tree.{Tree}
use Rattle.route_index.specs.Ids.{Patterns, subs_of}
use Rattle.route_index.specs.Subs.{IsAbove}
use Rattle.route_index.specs.Tree.{is_under_tokens, same_tokens, has_tokens, IsTree, HoldsNothing, Shows, KeepsTree, AddsToTree, DropsFromTree}
use Rattle.route_index.proofs.Numbers.{or_false, at_number}
use Rattle.route_index.proofs.Listing.{at, none_above}

and_false : (b : Bool) → (b && false) ≡ false
and_false true = refl
and_false false = refl

pub shows_none : (patterns : Patterns) (tree : Tree) → IsEmpty patterns → IsTree tree → HoldsNothing tree → Shows patterns tree
unfolding IsStrictlySortedBy
shows_none patterns tree none is holds = record {
  ordered = let P : List (ℕ × Bytes) → Type 0 = λ es. IsStrictlySortedBy nat_cmp (keys_of es) in subst P (sym none) tt;
  is_tree = is;
  at = λ parts id. holds.at parts id ∙ ap (λ es. has_tokens (lookup (at id) es) parts) (sym none);
}

pub shows_kept : (patterns : Patterns) (old new : Tree) → Shows patterns old → KeepsTree old new → Shows patterns new
shows_kept patterns old new shows keeps = record { ordered = shows.ordered; is_tree = keeps.tree; at = λ parts id. keeps.at parts id ∙ shows.at parts id }

module _ (old new : Patterns) (tree tree' : Tree) (id : ℕ) (pattern : Bytes) (shows : Shows old tree) (above : IsAbove id (subs_of old)) where
  pub shows_added : IsStrictlySortedBy nat_cmp (keys_of new.entries) → ((n : ℕ) → get nat_cmp new n ≡ cond (at id n) (Some pattern) (get nat_cmp old n))
      → AddsToTree tree tree' (tokens pattern) id → Shows new tree'
  shows_added rising updates adds = record { ordered = rising; is_tree = adds.tree; at = λ parts n. adds.at parts n ∙ go parts n (id == n) refl }
    where
      go : (parts : List Bytes) (n : ℕ) (b : Bool) → (id == n) ≡ b → (is_under_tokens tree parts n || (same_tokens (tokens pattern) parts && id == n)) ≡ has_tokens (get nat_cmp new n) parts
      go parts n true e =
          ap (λ b. is_under_tokens tree parts n || (same_tokens (tokens pattern) parts && b)) e
          ∙ ap (λ b. b || (same_tokens (tokens pattern) parts && true))
          (shows.at parts n ∙ ap (λ m. has_tokens (get nat_cmp old m) parts) (sym (eqb-true id n e)) ∙ ap (λ o. has_tokens o parts) (none_above id old.entries above))
          ∙ and_true (same_tokens (tokens pattern) parts)
          ∙ sym (ap (λ o. has_tokens o parts) (updates n ∙ ap (λ b. cond b (Some pattern) (get nat_cmp old n)) (at_number id n ∙ e)))
        where
          and_true : (b : Bool) → (b && true) ≡ b
          and_true true = refl
          and_true false = refl
      go parts n false e =
          ap (λ b. is_under_tokens tree parts n || (same_tokens (tokens pattern) parts && b)) e
          ∙ ap (λ b. is_under_tokens tree parts n || b) (and_false (same_tokens (tokens pattern) parts)) ∙ or_false (is_under_tokens tree parts n) ∙ shows.at parts n
          ∙ sym (ap (λ o. has_tokens o parts) (updates n ∙ ap (λ b. cond b (Some pattern) (get nat_cmp old n)) (at_number id n ∙ e)))

  taken_back : (a b : Bool) → (b ≡ true → a ≡ false) → ((a || b) && not b) ≡ a
  taken_back true true h = absurd (true≢false (h refl))
  taken_back true false h = refl
  taken_back false true h = refl
  taken_back false false h = refl

  -- an addition that was taken back
  pub shows_restored : (tree'' : Tree) → new.entries ≡ old.entries → AddsToTree tree tree' (tokens pattern) id → DropsFromTree tree' tree'' (tokens pattern) id → Shows new tree''
  shows_restored tree'' same' adds drops = record {
    ordered = let P : List (ℕ × Bytes) → Type 0 = λ es. IsStrictlySortedBy nat_cmp (keys_of es) in subst P (sym same') shows.ordered;
    is_tree = drops.tree;
    at = λ parts n. drops.at parts n ∙ ap (λ b. b && not (same_tokens (tokens pattern) parts && id == n)) (adds.at parts n)
        ∙ taken_back (is_under_tokens tree parts n) (same_tokens (tokens pattern) parts && id == n) (absent parts n) ∙ shows.at parts n ∙ ap (λ es. has_tokens (lookup (at n) es) parts) (sym same');
  }
    where
      absent : (parts : List Bytes) (n : ℕ) → (same_tokens (tokens pattern) parts && id == n) ≡ true → is_under_tokens tree parts n ≡ false
      absent parts n h =
          shows.at parts n ∙ ap (λ m. has_tokens (get nat_cmp old m) parts) (sym (eqb-true id n (and_parts (same_tokens (tokens pattern) parts) (id == n) h).1))
          ∙ ap (λ o. has_tokens o parts) (none_above id old.entries above)

pub shows_removed : (old new : Patterns) (tree tree' : Tree) (id : ℕ) (pattern : Bytes) → Shows old tree → Some pattern ≡ get nat_cmp old id → IsStrictlySortedBy nat_cmp (keys_of new.entries)
    → ((n : ℕ) → get nat_cmp new n ≡ cond (at id n) None (get nat_cmp old n)) → DropsFromTree tree tree' (tokens pattern) id → Shows new tree'
shows_removed old new tree tree' id pattern shows was rising updates drops = record { ordered = rising; is_tree = drops.tree; at = λ parts n. drops.at parts n ∙ go parts n (id == n) refl }
  where
    never : (b : Bool) → (b && not (b && true)) ≡ false
    never true = refl
    never false = refl

    kept : (a b : Bool) → (a && not (b && false)) ≡ a
    kept true true = refl
    kept true false = refl
    kept false b = refl

    go : (parts : List Bytes) (n : ℕ) (b : Bool) → (id == n) ≡ b → (is_under_tokens tree parts n && not (same_tokens (tokens pattern) parts && id == n)) ≡ has_tokens (get nat_cmp new n) parts
    go parts n true e =
        ap (λ b. is_under_tokens tree parts n && not (same_tokens (tokens pattern) parts && b)) e
        ∙ ap (λ b. b && not (same_tokens (tokens pattern) parts && true))
        (shows.at parts n ∙ ap (λ m. has_tokens (get nat_cmp old m) parts) (sym (eqb-true id n e)) ∙ ap (λ o. has_tokens o parts) (sym was))
        ∙ never (same_tokens (tokens pattern) parts)
        ∙ sym (ap (λ o. has_tokens o parts) (updates n ∙ ap (λ b. cond b None (get nat_cmp old n)) (at_number id n ∙ e)))
    go parts n false e =
        ap (λ b. is_under_tokens tree parts n && not (same_tokens (tokens pattern) parts && b)) e ∙ kept (is_under_tokens tree parts n) (same_tokens (tokens pattern) parts) ∙ shows.at parts n
        ∙ sym (ap (λ o. has_tokens o parts) (updates n ∙ ap (λ b. cond b None (get nat_cmp old n)) (at_number id n ∙ e)))
