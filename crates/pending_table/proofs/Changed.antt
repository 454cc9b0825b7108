-- The changes of the table's calls, by those of one entry.
use Rattle.std.proofs.Common.{◌≡◌, ℕ, ◌<◌, ◌≤◌, ◌==◌, ◌&&◌, ◌||◌, Bool, true, false, cond, not, List, [], ◌∷◌, Option, Some, None, map, length, refl, sym, ap, ◌∙◌, subst, arith}
use Rattle.std.specs.Prelude.{filter, find, is_some, nat_le, nat_lt}
use Rattle.std.specs.List.{AllByRecursion, list_any}
use Rattle.std.specs.Option.{option_map}
use Rattle.std.proofs.lemmas.Bool.{eqb-true, eq-eqb, lt-ltb, le-ltb, ne_eqb}
use Rattle.std.proofs.lemmas.Bool.Decides.{nat_tests}
use Rattle.js_model.specs.declared.consumer.Pending.{Pending}
use Rattle.js_model.specs.Acknowledge.{moved}
use Rattle.js_model.specs.Deliver.{with_pending, without_first}
use Rattle.pending_table.specs.Trees.{IsAscending}
use Rattle.pending_table.proofs.Around.{all_map, find_none, map_same, filter_same, replaced}
use Rattle.pending_table.proofs.Kept.{found_test, found_all, later_apart}

-- ---- what is there

pub any_found : (test : Pending → Bool) (ps : List Pending) (q : Pending) → find test ps ≡ Some q → list_any test ps ≡ true
any_found test [] q h = absurd cc
any_found test (p ∷ ps) q h = go (any_found test ps q) (test p) refl h
  where
    go : (find test ps ≡ Some q → list_any test ps ≡ true) → (b : Bool) → test p ≡ b → cond b (Some p) (find test ps) ≡ Some q → list_any test (p ∷ ps) ≡ true
    go more true e k = rw e
    go more false e k = rw e (more k)

pub none_found : (test : Pending → Bool) (ps : List Pending) → find test ps ≡ None → AllByRecursion (λ p. test p ≡ false) ps
none_found test [] h = tt
none_found test (p ∷ ps) h = go (none_found test ps) (test p) refl h
  where
    go : (find test ps ≡ None → AllByRecursion (λ p. test p ≡ false) ps) → (b : Bool) → test p ≡ b → cond b (Some p) (find test ps) ≡ None → AllByRecursion (λ p. test p ≡ false) (p ∷ ps)
    go more true e k = absurd cc
    go more false e k = (e, more k)

pub any_none : (test : Pending → Bool) (ps : List Pending) → AllByRecursion (λ p. test p ≡ false) ps → list_any test ps ≡ false
any_none test [] h = refl
any_none test (p ∷ ps) h = rw h.0 (any_none test ps h.1)

-- ---- an entry set, or due at another moment

pub put_replaced : (new old : Pending) (ps : List Pending) → IsAscending ps → find (λ p. p.seq == new.seq) ps ≡ Some old → map (replaced new) ps ≡ with_pending ps new
put_replaced new old [] h found = absurd cc
put_replaced new old (p ∷ ps) h found = go (put_replaced new old ps h.1) (p.seq == new.seq) refl found
  where
    go : (find (λ p. p.seq == new.seq) ps ≡ Some old → map (replaced new) ps ≡ with_pending ps new) → (b : Bool) → (p.seq == new.seq) ≡ b → cond b (Some p) (find (λ p. p.seq == new.seq) ps) ≡ Some old
        → cond b new p ∷ map (replaced new) ps ≡ cond (nat_lt p.seq new.seq) (p ∷ with_pending ps new) (cond b (new ∷ ps) (new ∷ p ∷ ps))
    go more true e k =
        let same : p.seq ≡ new.seq = eqb-true p.seq new.seq e in
        ap (λ qs. new ∷ qs) (map_same new ps (later_apart p ps new.seq same h.0))
        ∙ sym (ap (λ b. cond b (p ∷ with_pending ps new) (new ∷ ps)) (le-ltb p.seq new.seq (omega (arith, same))))
    go more false e k =
        let same : old.seq ≡ new.seq = eqb-true old.seq new.seq (found_test (λ p. p.seq == new.seq) ps old k) in
        let less : p.seq < old.seq = found_all (λ q. p.seq < q.seq) (λ p. p.seq == new.seq) ps old h.0 k in
        ap (λ qs. p ∷ qs) (more k)
        ∙ sym (ap (λ b. cond b (p ∷ with_pending ps new) (new ∷ p ∷ ps)) (lt-ltb p.seq new.seq (omega (arith, same, less))))

moved_none : (seq due : ℕ) (ps : List Pending) → AllByRecursion (λ p. (p.seq == seq) ≡ false) ps → map (moved seq due) ps ≡ ps
moved_none seq due [] h = refl
moved_none seq due (p ∷ ps) h = ap (λ b. cond b (record p { due = due }) p ∷ map (moved seq due) ps) h.0 ∙ ap (λ qs. p ∷ qs) (moved_none seq due ps h.1)

pub nothing_moved : (seq due : ℕ) (ps : List Pending) → find (λ p. p.seq == seq) ps ≡ None → map (moved seq due) ps ≡ ps
nothing_moved seq due ps h = moved_none seq due ps (none_found (λ p. p.seq == seq) ps h)

pub moved_replaced : (seq due : ℕ) (e : Pending) (ps : List Pending) → IsAscending ps → find (λ p. p.seq == seq) ps ≡ Some e → map (replaced (record e { due = due })) ps ≡ map (moved seq due) ps
moved_replaced seq due e [] h found = absurd cc
moved_replaced seq due e (p ∷ ps) h found = go (moved_replaced seq due e ps h.1) (p.seq == seq) refl found
  where
    new : Pending
    new = record e { due = due }

    seq_is : e.seq ≡ seq
    seq_is = eqb-true e.seq seq (found_test (λ p. p.seq == seq) (p ∷ ps) e found)

    same_test : (p.seq == e.seq) ≡ (p.seq == seq)
    same_test = ap (λ n. p.seq == n) seq_is

    go : (find (λ p. p.seq == seq) ps ≡ Some e → map (replaced new) ps ≡ map (moved seq due) ps) → (b : Bool) → (p.seq == seq) ≡ b → cond b (Some p) (find (λ p. p.seq == seq) ps) ≡ Some e → cond (p.seq == e.seq) new p ∷ map (replaced new) ps ≡ cond b (record p { due = due }) p ∷ map (moved seq due) ps
    go more true w k =
        let same : p ≡ e = cc k in
        let at : p.seq ≡ seq = eqb-true p.seq seq w in
        ap (λ b. cond b new p ∷ map (replaced new) ps) (same_test ∙ w)
        ∙ ap (λ (q : Pending). record q { due = due } ∷ map (replaced new) ps) (sym same)
        ∙ ap (λ qs. record p { due = due } ∷ qs)
        (map_same new ps (later_apart p ps e.seq (at ∙ sym seq_is) h.0) ∙ sym (moved_none seq due ps (later_apart p ps seq at h.0)))
    go more false w k =
        ap (λ b. cond b new p ∷ map (replaced new) ps) (same_test ∙ w) ∙ ap (λ qs. p ∷ qs) (more k)

-- ---- the first entry that passes goes

pub first_removed : (test : Pending → Bool) (q : Pending) (ps : List Pending) → IsAscending ps → find test ps ≡ Some q → filter (λ p. not (p.seq == q.seq)) ps ≡ without_first test ps
first_removed test q [] h found = absurd cc
first_removed test q (p ∷ ps) h found = go (first_removed test q ps h.1) (test p) found
  where
    rest : List Pending
    rest = filter (λ p. not (p.seq == q.seq)) ps

    go : (find test ps ≡ Some q → rest ≡ without_first test ps) → (b : Bool) → cond b (Some p) (find test ps) ≡ Some q → cond (not (p.seq == q.seq)) (p ∷ rest) rest ≡ cond b ps (p ∷ without_first test ps)
    go more true k =
        let same : p ≡ q = cc k in
        let at : p.seq ≡ q.seq = ap (λ (x : Pending). x.seq) same in
        ap (λ b. cond (not b) (p ∷ rest) rest) (eq-eqb p.seq q.seq at) ∙ filter_same (λ p. p.seq == q.seq) ps (later_apart p ps q.seq at h.0)
    go more false k =
        let less : p.seq < q.seq = found_all (λ x. p.seq < x.seq) test ps q h.0 k in
        ap (λ b. cond (not b) (p ∷ rest) rest) (ne_eqb p.seq q.seq (λ e. omega (arith, e, less)))
        ∙ ap (λ qs. p ∷ qs) (more k)

pub none_first : (test : Pending → Bool) (ps : List Pending) → find test ps ≡ None → without_first test ps ≡ ps
none_first test [] h = refl
none_first test (p ∷ ps) h = go (none_first test ps) (test p) h
  where
    go : (find test ps ≡ None → without_first test ps ≡ ps) → (b : Bool) → cond b (Some p) (find test ps) ≡ None → cond b ps (p ∷ without_first test ps) ≡ p ∷ ps
    go more true k = absurd cc
    go more false k = ap (λ qs. p ∷ qs) (more k)

-- ---- a range goes

abbrev pub is_in : ℕ → ℕ → Pending → Bool
is_in low high p = nat_le low p.seq && nat_le p.seq high

-- one of the range goes first
pub range_later : (low high seq : ℕ) (ps : List Pending) → (nat_le low seq && nat_le seq high) ≡ true → filter (λ p. not (is_in low high p)) (filter (λ p. not (p.seq == seq)) ps) ≡ filter (λ p. not (is_in low high p)) ps
range_later low high seq [] h = refl
range_later low high seq (p ∷ ps) h = go (p.seq == seq) refl (range_later low high seq ps h)
  where
    test : Pending → Bool
    test q = not (is_in low high q)

    rest : List Pending
    rest = filter (λ p. not (p.seq == seq)) ps

    go : (b : Bool) → (p.seq == seq) ≡ b → filter test rest ≡ filter test ps → filter test (cond (not b) (p ∷ rest) rest) ≡ filter test (p ∷ ps)
    go true e k =
        let at : p.seq ≡ seq = eqb-true p.seq seq e in
        let inside : is_in low high p ≡ true = ap (λ n. nat_le low n && nat_le n high) at ∙ h in
        k ∙ sym (ap (λ b. cond (not b) (p ∷ filter test ps) (filter test ps)) inside)
    go false e k = ap (λ qs. cond (test p) (p ∷ qs) qs) k

pub range_done : (low high : ℕ) (ps : List Pending) → find (is_in low high) ps ≡ None → filter (λ p. not (is_in low high p)) ps ≡ ps
range_done low high ps h = filter_same (is_in low high) ps (none_found (is_in low high) ps h)

pub shorter_or_same : (test : Pending → Bool) (ps : List Pending) → length (filter test ps) ≤ length ps
shorter_or_same test [] = omega arith
shorter_or_same test (p ∷ ps) = go (test p) (shorter_or_same test ps)
  where
    go : (b : Bool) → length (filter test ps) ≤ length ps → length (cond b (p ∷ filter test ps) (filter test ps)) ≤ length (p ∷ ps)
    go true k = omega (arith, k)
    go false k = omega (arith, k)

pub shorter : (test : Pending → Bool) (q : Pending) (ps : List Pending) → find test ps ≡ Some q → length (filter (λ p. not (p.seq == q.seq)) ps) < length ps
shorter test q [] h = absurd cc
shorter test q (p ∷ ps) h = go (shorter test q ps) (test p) h
  where
    rest : List Pending
    rest = filter (λ p. not (p.seq == q.seq)) ps

    go : (find test ps ≡ Some q → length rest < length ps) → (b : Bool) → cond b (Some p) (find test ps) ≡ Some q → length (cond (not (p.seq == q.seq)) (p ∷ rest) rest) < length (p ∷ ps)
    go more true k =
        let same : p ≡ q = cc k in
        let at : p.seq ≡ q.seq = ap (λ (x : Pending). x.seq) same in
        rw (eq-eqb p.seq q.seq at) (omega (arith, shorter_or_same (λ p. not (p.seq == q.seq)) ps))
    go more false k = either (p.seq == q.seq) (more k)
      where
        either : (b : Bool) → length rest < length ps → length (cond (not b) (p ∷ rest) rest) < length (p ∷ ps)
        either true l = omega (arith, l)
        either false l = omega (arith, l)

-- ---- the first of a range

upto_high : (n m : ℕ) → n ≤ m → nat_le n m ≡ true
upto_high n m h = grind (arith, nat_tests)

pub first_of_range : (low high : ℕ) (ps : List Pending) (q : Pending) → find (λ p. nat_le low p.seq) ps ≡ Some q → q.seq ≤ high → find (is_in low high) ps ≡ Some q
first_of_range low high [] q h upto = absurd cc
first_of_range low high (p ∷ ps) q h upto = go (λ k. first_of_range low high ps q k upto) (nat_le low p.seq) h
  where
    go : (find (λ p. nat_le low p.seq) ps ≡ Some q → find (is_in low high) ps ≡ Some q) → (b : Bool) → cond b (Some p) (find (λ p. nat_le low p.seq) ps) ≡ Some q → cond (b && nat_le p.seq high) (Some p) (find (is_in low high) ps) ≡ Some q
    go more true k =
        let same : p ≡ q = cc k in
        let at : p.seq ≡ q.seq = ap (λ (x : Pending). x.seq) same in
        let inside : nat_le p.seq high ≡ true = ap (λ n. nat_le n high) at ∙ upto_high q.seq high upto in
        ap (λ b. cond b (Some p) (find (is_in low high) ps)) inside ∙ k
    go more false k = more k

pub none_of_range : (low high : ℕ) (ps : List Pending) → find (λ p. nat_le low p.seq) ps ≡ None → find (is_in low high) ps ≡ None
none_of_range low high [] h = refl
none_of_range low high (p ∷ ps) h = go (none_of_range low high ps) (nat_le low p.seq) h
  where
    go : (find (λ p. nat_le low p.seq) ps ≡ None → find (is_in low high) ps ≡ None) → (b : Bool) → cond b (Some p) (find (λ p. nat_le low p.seq) ps) ≡ None → cond (b && nat_le p.seq high) (Some p) (find (is_in low high) ps) ≡ None
    go more true k = absurd cc
    go more false k = more k

above_high : (n m : ℕ) → m < n → nat_le n m ≡ false
above_high n m h = grind (arith, nat_tests)

and_false : (a b : Bool) → b ≡ false → (a && b) ≡ false
and_false true b h = h
and_false false b h = refl

pub past_range : (low high : ℕ) (ps : List Pending) (q : Pending) → IsAscending ps → find (λ p. nat_le low p.seq) ps ≡ Some q → high < q.seq → find (is_in low high) ps ≡ None
past_range low high [] q h found past = absurd cc
past_range low high (p ∷ ps) q h found past = go (λ k. past_range low high ps q h.1 k past) (nat_le low p.seq) found
  where
    beyond : p ≡ q → AllByRecursion (λ x. is_in low high x ≡ false) ps
    beyond same =
        let at : p.seq ≡ q.seq = ap (λ (x : Pending). x.seq) same in
        all_map (λ x. p.seq < x.seq) (λ x. is_in low high x ≡ false) (λ x k. and_false (nat_le low x.seq) (nat_le x.seq high) (above_high x.seq high (omega (arith, at, past, k)))) ps h.0

    go : (find (λ p. nat_le low p.seq) ps ≡ Some q → find (is_in low high) ps ≡ None) → (b : Bool) → cond b (Some p) (find (λ p. nat_le low p.seq) ps) ≡ Some q → cond (b && nat_le p.seq high) (Some p) (find (is_in low high) ps) ≡ None
    go more true k =
        let same : p ≡ q = cc k in
        let at : p.seq ≡ q.seq = ap (λ (x : Pending). x.seq) same in
        ap (λ b. cond b (Some p) (find (is_in low high) ps)) (above_high p.seq high (omega (arith, at, past))) ∙ find_none (is_in low high) ps (beyond same)
    go more false k = more k

abbrev seq_of : Option Pending → Option ℕ
seq_of o = option_map (λ p. p.seq) o

module _ (low high : ℕ) (ps : List Pending) where
  pub range_first : (n : ℕ) (o : Option Pending) → find (λ p. nat_le low p.seq) ps ≡ o → Some n ≡ seq_of o → n ≤ high → Some n ≡ seq_of (find (is_in low high) ps)
  range_first n None f h upto = absurd cc
  range_first n (Some q) f h upto =
      let same : n ≡ q.seq = cc h in
      h ∙ ap seq_of (sym (first_of_range low high ps q f (omega (arith, upto, same))))

  pub range_past : IsAscending ps → (n : ℕ) (o : Option Pending) → find (λ p. nat_le low p.seq) ps ≡ o → Some n ≡ seq_of o → high < n → None ≡ seq_of (find (is_in low high) ps)
  range_past ascending n None f h past = absurd cc
  range_past ascending n (Some q) f h past =
      let same : n ≡ q.seq = cc h in
      ap seq_of (sym (past_range low high ps q ascending f (omega (arith, past, same))))

  pub range_empty : (o : Option Pending) → find (λ p. nat_le low p.seq) ps ≡ o → None ≡ seq_of o → None ≡ seq_of (find (is_in low high) ps)
  range_empty None f h = ap seq_of (sym (none_of_range low high ps f))
  range_empty (Some q) f h = absurd cc

-- what an answer without a sequence says, and one with it
pub not_found : (test : Pending → Bool) (ps : List Pending) (o : Option Pending) → find test ps ≡ o → None ≡ seq_of o → find test ps ≡ None
not_found test ps None f h = f
not_found test ps (Some q) f h = absurd cc

-- something is found exactly if something passes
pub found_any : (test : Pending → Bool) (ps : List Pending) (o : Option ℕ) → o ≡ seq_of (find test ps) → is_some o ≡ list_any test ps
found_any test ps o h = ap is_some h ∙ go ps
  where
    go : (ps : List Pending) → is_some (seq_of (find test ps)) ≡ list_any test ps
    go [] = refl
    go (p ∷ ps) = at (test p) (go ps)
      where
        at : (b : Bool) → is_some (seq_of (find test ps)) ≡ list_any test ps → is_some (seq_of (cond b (Some p) (find test ps))) ≡ (b || list_any test ps)
        at true k = refl
        at false k = k

-- what is found is found by its own sequence
by_own : (test : Pending → Bool) (ps : List Pending) (q : Pending) → IsAscending ps → find test ps ≡ Some q → find (λ p. p.seq == q.seq) ps ≡ Some q
by_own test [] q ascending h = absurd cc
by_own test (p ∷ ps) q ascending h = go (test p) h (by_own test ps q ascending.1)
  where
    rest : Option Pending
    rest = find (λ p. p.seq == q.seq) ps

    go : (b : Bool) → cond b (Some p) (find test ps) ≡ Some q → (find test ps ≡ Some q → rest ≡ Some q) → cond (p.seq == q.seq) (Some p) rest ≡ Some q
    go true k more = let same : p ≡ q = cc k in ap (λ b. cond b (Some p) rest) (eq-eqb p.seq q.seq (ap (λ (x : Pending). x.seq) same)) ∙ k
    go false k more =
        let less : p.seq < q.seq = found_all (λ x. p.seq < x.seq) test ps q ascending.0 k in
        ap (λ b. cond b (Some p) rest) (ne_eqb p.seq q.seq (λ e. omega (arith, e, less))) ∙ more k

pub found_own : (test : Pending → Bool) (ps : List Pending) → IsAscending ps → (n : ℕ) (o : Option Pending) → find test ps ≡ o → Some n ≡ seq_of o → find (λ p. p.seq == n) ps ≡ find test ps
found_own test ps ascending n None f h = absurd cc
found_own test ps ascending n (Some q) f h = let same : n ≡ q.seq = cc h in ap (λ k. find (λ p. p.seq == k) ps) same ∙ by_own test ps q ascending f ∙ sym f

-- the first that passes goes by its sequence
pub taken_first : (test : Pending → Bool) (ps : List Pending) → IsAscending ps → (n : ℕ) (o : Option Pending) → find test ps ≡ o → Some n ≡ seq_of o → filter (λ p. not (p.seq == n)) ps ≡ without_first test ps
taken_first test ps ascending n None f h = absurd cc
taken_first test ps ascending n (Some q) f h =
    let same : n ≡ q.seq = cc h in
    ap (λ (m : ℕ). filter (λ p. not (p.seq == m)) ps) same ∙ first_removed test q ps ascending f

-- one of the range goes, and the others that are to go are as before
pub range_step : (low high : ℕ) (ps : List Pending) (n : ℕ) (o : Option Pending) → find (is_in low high) ps ≡ o → Some n ≡ seq_of o
    → (filter (λ p. not (is_in low high p)) (filter (λ p. not (p.seq == n)) ps) ≡ filter (λ p. not (is_in low high p)) ps) × (length (filter (λ p. not (p.seq == n)) ps) < length ps)
range_step low high ps n None f h = absurd cc
range_step low high ps n (Some q) f h =
    let same : n ≡ q.seq = cc h in (
      range_later low high n ps (ap (λ m. nat_le low m && nat_le m high) same ∙ found_test (is_in low high) ps q f),
      subst (λ (m : ℕ). length (filter (λ p. not (p.seq == m)) ps) < length ps) (sym same) (shorter (is_in low high) q ps f),
    )

from_zero : (n : ℕ) → nat_le 0 n ≡ true
from_zero n = grind (arith, nat_tests)

-- the range from 0 on
pub range_upto : (high : ℕ) (ps : List Pending) → filter (λ p. not (is_in 0 high p)) ps ≡ filter (λ p. not (nat_le p.seq high)) ps
range_upto high [] = refl
range_upto high (p ∷ ps) =
    ap (λ b. cond (not (b && nat_le p.seq high)) (p ∷ filter (λ p. not (is_in 0 high p)) ps) (filter (λ p. not (is_in 0 high p)) ps)) (from_zero p.seq)
    ∙ ap (λ qs. cond (not (nat_le p.seq high)) (p ∷ qs) qs) (range_upto high ps)
