-- An entry that moves from one table to another.
use Rattle.std.proofs.Common.{◌≡◌, ℕ, ◌<◌, ◌≤◌, ◌==◌, ◌||◌, Bool, true, false, cond, List, [], ◌∷◌, Option, Some, None, length, map, refl, sym, ap, ◌∙◌, arith}
use Rattle.std.specs.Prelude.{Box, find, is_some}
use Rattle.std.specs.List.{list_any}
use Rattle.std.specs.declared.alloc.Global.{Global}
use Rattle.std.specs.Option.{option_map}
use Rattle.std.proofs.lemmas.Bool.{eq-eqb, ne_eqb, or_left, or_right}
use Rattle.js_base.specs.Bytes.{has}
use Rattle.js_model.specs.declared.consumer.Pending.{Pending}
use Rattle.js_model.specs.Lists.{Apart}
use Rattle.js_model.proofs.Members.{find_none}
use Rattle.pending_table.specs.declared.tree.Fork.{Fork}
use Rattle.pending_table.specs.Trees.{entry_of, IsAscending}
use Rattle.pending_table.proofs.Changed.{any_found, any_none, none_found}
use Rattle.pending_table.proofs.Kept.{found_all}

pub some_any : (test : Pending → Bool) (ps : List Pending) (o : Option (Box Fork Global)) → entry_of o ≡ find test ps → is_some o ≡ list_any test ps
some_any test ps None h = sym (any_none test ps (none_found test ps (sym h)))
some_any test ps (Some f) h = sym (any_found test ps f.value.entry (sym h))

-- what is found is found by its sequence
found_own : (test : Pending → Bool) (q : Pending) (ps : List Pending) → IsAscending ps → find test ps ≡ Some q → find (λ p. p.seq == q.seq) ps ≡ Some q
found_own test q [] h found = found
found_own test q (p ∷ ps) h found = go (found_own test q ps h.1) (test p) found
  where
    go : (find test ps ≡ Some q → find (λ p. p.seq == q.seq) ps ≡ Some q) → (b : Bool) → cond b (Some p) (find test ps) ≡ Some q → cond (p.seq == q.seq) (Some p) (find (λ p. p.seq == q.seq) ps) ≡ Some q
    go more true k =
        let same : p ≡ q = cc k in
        let at : p.seq ≡ q.seq = ap (λ (x : Pending). x.seq) same in
        ap (λ b. cond b (Some p) (find (λ p. p.seq == q.seq) ps)) (eq-eqb p.seq q.seq at) ∙ k
    go more false k =
        let less : p.seq < q.seq = found_all (λ x. p.seq < x.seq) test ps q h.0 k in
        ap (λ b. cond b (Some p) (find (λ p. p.seq == q.seq) ps)) (ne_eqb p.seq q.seq (λ e. omega (arith, e, less))) ∙ more k

pub found_by_seq : (test : Pending → Bool) (ps : List Pending) → IsAscending ps → (n : ℕ) (o : Option Pending) → find test ps ≡ o → Some n ≡ option_map (λ p. p.seq) o → find (λ p. p.seq == n) ps ≡ find test ps
found_by_seq test ps ascending n None f h = absurd cc
found_by_seq test ps ascending n (Some q) f h =
    let same : n ≡ q.seq = cc h in
    ap (λ (m : ℕ). find (λ p. p.seq == m) ps) same ∙ found_own test q ps ascending f ∙ sym f

has_found : (test : Pending → Bool) (q : Pending) (ps : List Pending) → find test ps ≡ Some q → has (map (λ p. p.seq) ps) q.seq ≡ true
has_found test q [] h = absurd cc
has_found test q (p ∷ ps) h = go (has_found test q ps) (test p) h
  where
    go : (find test ps ≡ Some q → has (map (λ p. p.seq) ps) q.seq ≡ true) → (b : Bool) → cond b (Some p) (find test ps) ≡ Some q → has (map (λ p. p.seq) (p ∷ ps)) q.seq ≡ true
    go more true k =
        let same : p ≡ q = cc k in
        or_left (p.seq == q.seq) (has (map (λ p. p.seq) ps) q.seq) (eq-eqb p.seq q.seq (ap (λ (x : Pending). x.seq) same))
    go more false k = or_right (p.seq == q.seq) (has (map (λ p. p.seq) ps) q.seq) (more k)

pub found_length : (test : Pending → Bool) (q : Pending) (ps : List Pending) → find test ps ≡ Some q → 1 ≤ length ps
found_length test q [] h = absurd cc
found_length test q (p ∷ ps) h = omega arith

any_seq : (n : ℕ) (ps : List Pending) → has (map (λ p. p.seq) ps) n ≡ list_any (λ p. p.seq == n) ps
any_seq n [] = refl
any_seq n (p ∷ ps) = ap (λ b. (p.seq == n) || b) (any_seq n ps)

-- what is found in one of two tables apart has no entry in the other
pub apart_found : (test : Pending → Bool) (ps qs : List Pending) (q : Pending) → find test ps ≡ Some q → Apart (map (λ p. p.seq) ps) (map (λ p. p.seq) qs) → find (λ p. p.seq == q.seq) qs ≡ None
apart_found test ps qs q h apart = find_none (λ p. p.seq == q.seq) qs (sym (any_seq q.seq qs) ∙ apart.apart q.seq (has_found test q ps h))
