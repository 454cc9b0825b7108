-- What an ascending list stays, and what its sums become, where an entry comes, changes or goes.
use Rattle.std.proofs.Common.{◌≡◌, ℕ, ◌+◌, ◌<◌, ◌≤◌, ◌==◌, Bool, true, false, cond, not, List, [], ◌∷◌, Some, None, map, length, refl, ap, subst, arith}
use Rattle.std.specs.Prelude.{filter, find, nat_lt}
use Rattle.std.specs.List.{AllByRecursion, sum_by}
use Rattle.std.proofs.lemmas.Bool.{eqb-true, eqb-false, ltb-true, ltb-false}
use Rattle.std.proofs.lemmas.List.Sums.{sum_by-cons}
use Rattle.js_model.specs.declared.consumer.Pending.{Pending}
use Rattle.js_model.specs.Deliver.{with_pending}
use Rattle.pending_table.specs.Trees.{IsAscending}
use Rattle.pending_table.proofs.Around.{all_map, greater_apart, map_same, filter_same, replaced}

-- ---- what is found

pub found_test : (test : Pending → Bool) (ps : List Pending) (q : Pending) → find test ps ≡ Some q → test q ≡ true
found_test test [] q h = absurd cc
found_test test (p ∷ ps) q h = go (found_test test ps q) (test p) refl h
  where
    go : (find test ps ≡ Some q → test q ≡ true) → (b : Bool) → test p ≡ b → cond b (Some p) (find test ps) ≡ Some q → test q ≡ true
    go rest true e k = let same : p ≡ q = cc k in subst (λ (x : Pending). test x ≡ true) same e
    go rest false e k = rest k

pub found_all : (P : Pending → Type 0) (test : Pending → Bool) (ps : List Pending) (q : Pending) → AllByRecursion P ps → find test ps ≡ Some q → P q
found_all P test [] q all h = absurd cc
found_all P test (p ∷ ps) q all h = go (found_all P test ps q all.1) (test p) h
  where
    go : (find test ps ≡ Some q → P q) → (b : Bool) → cond b (Some p) (find test ps) ≡ Some q → P q
    go rest true k = let same : p ≡ q = cc k in subst P same all.0
    go rest false k = rest k

-- those after an entry have other sequences
pub later_apart : (p : Pending) (ps : List Pending) (n : ℕ) → p.seq ≡ n → AllByRecursion (λ q. p.seq < q.seq) ps → AllByRecursion (λ q. (q.seq == n) ≡ false) ps
later_apart p ps n same h = greater_apart n ps (all_map (λ q. p.seq < q.seq) (λ q. n < q.seq) (λ q k. omega (arith, same, k)) ps h)

-- ---- an entry comes

pub all_put : (P : Pending → Type 0) (new : Pending) (ps : List Pending) → P new → AllByRecursion P ps → AllByRecursion P (with_pending ps new)
all_put P new [] h all = (h, tt)
all_put P new (p ∷ ps) h all = go (nat_lt p.seq new.seq) (p.seq == new.seq) (all_put P new ps h all.1)
  where
    go : (a b : Bool) → AllByRecursion P (with_pending ps new) → AllByRecursion P (cond a (p ∷ with_pending ps new) (cond b (new ∷ ps) (new ∷ p ∷ ps)))
    go true b k = (all.0, k)
    go false true k = (h, all.1)
    go false false k = (h, all)

pub ascending_put : (new : Pending) (ps : List Pending) → IsAscending ps → IsAscending (with_pending ps new)
ascending_put new [] h = (tt, tt)
ascending_put new (p ∷ ps) h = go (nat_lt p.seq new.seq) refl (p.seq == new.seq) refl (ascending_put new ps h.1)
  where
    go : (a : Bool) → nat_lt p.seq new.seq ≡ a → (b : Bool) → (p.seq == new.seq) ≡ b → IsAscending (with_pending ps new) → IsAscending (cond a (p ∷ with_pending ps new) (cond b (new ∷ ps) (new ∷ p ∷ ps)))
    go true e b f k = (all_put (λ q. p.seq < q.seq) new ps (ltb-true p.seq new.seq e) h.0, k)
    go false e true f k =
        let same : p.seq ≡ new.seq = eqb-true p.seq new.seq f in
        (all_map (λ q. p.seq < q.seq) (λ q. new.seq < q.seq) (λ q l. omega (arith, same, l)) ps h.0, h.1)
    go false e false f k =
        let not_less : new.seq ≤ p.seq = ltb-false p.seq new.seq e in
        let other = eqb-false p.seq new.seq f in
        let less : new.seq < p.seq = omega (arith, not_less, other) in
        ((less, all_map (λ q. p.seq < q.seq) (λ q. new.seq < q.seq) (λ q l. omega (arith, less, l)) ps h.0), h)

pub sum_put : (f : Pending → ℕ) (new : Pending) (ps : List Pending) → find (λ p. p.seq == new.seq) ps ≡ None → sum_by f (with_pending ps new) ≡ sum_by f ps + f new
sum_put f new [] h = omega (arith, sum_by-cons f new [])
sum_put f new (p ∷ ps) h = go (sum_put f new ps) (nat_lt p.seq new.seq) (p.seq == new.seq) refl h
  where
    go : (find (λ p. p.seq == new.seq) ps ≡ None → sum_by f (with_pending ps new) ≡ sum_by f ps + f new) → (a b : Bool) → (p.seq == new.seq) ≡ b → cond b (Some p) (find (λ p. p.seq == new.seq) ps) ≡ None → sum_by f (cond a (p ∷ with_pending ps new) (cond b (new ∷ ps) (new ∷ p ∷ ps))) ≡ sum_by f (p ∷ ps) + f new
    go rest a true e k = absurd cc
    go rest true false e k = omega (arith, sum_by-cons f p (with_pending ps new), sum_by-cons f p ps, rest k)
    go rest false false e k = omega (arith, sum_by-cons f new (p ∷ ps))

-- ---- an entry changes

all_replaced : (n : ℕ) (new : Pending) (ps : List Pending) → AllByRecursion (λ q. n < q.seq) ps → AllByRecursion (λ q. n < q.seq) (map (replaced new) ps)
all_replaced n new [] h = tt
all_replaced n new (p ∷ ps) h = (go (p.seq == new.seq) refl, all_replaced n new ps h.1)
  where
    go : (b : Bool) → (p.seq == new.seq) ≡ b → n < (cond b new p).seq
    go true e = let same : p.seq ≡ new.seq = eqb-true p.seq new.seq e in let less : n < p.seq = h.0 in omega (arith, same, less)
    go false e = h.0

pub all_changed : (P : Pending → Type 0) (new : Pending) (ps : List Pending) → P new → AllByRecursion P ps → AllByRecursion P (map (replaced new) ps)
all_changed P new [] h all = tt
all_changed P new (p ∷ ps) h all = (go (p.seq == new.seq), all_changed P new ps h all.1)
  where
    go : (b : Bool) → P (cond b new p)
    go true = h
    go false = all.0

pub ascending_replaced : (new : Pending) (ps : List Pending) → IsAscending ps → IsAscending (map (replaced new) ps)
ascending_replaced new [] h = tt
ascending_replaced new (p ∷ ps) h = (go (p.seq == new.seq) refl, ascending_replaced new ps h.1)
  where
    go : (b : Bool) → (p.seq == new.seq) ≡ b → AllByRecursion (λ q. (cond b new p).seq < q.seq) (map (replaced new) ps)
    go true e =
        let same : p.seq ≡ new.seq = eqb-true p.seq new.seq e in
        all_replaced new.seq new ps (all_map (λ q. p.seq < q.seq) (λ q. new.seq < q.seq) (λ q l. omega (arith, same, l)) ps h.0)
    go false e = all_replaced p.seq new ps h.0

pub sum_replaced : (f : Pending → ℕ) (new old : Pending) (ps : List Pending) → IsAscending ps → find (λ p. p.seq == new.seq) ps ≡ Some old → sum_by f (map (replaced new) ps) + f old ≡ sum_by f ps + f new
sum_replaced f new old [] h found = absurd cc
sum_replaced f new old (p ∷ ps) h found = go (sum_replaced f new old ps h.1) (p.seq == new.seq) refl found
  where
    go : (find (λ p. p.seq == new.seq) ps ≡ Some old → sum_by f (map (replaced new) ps) + f old ≡ sum_by f ps + f new) → (b : Bool) → (p.seq == new.seq) ≡ b → cond b (Some p) (find (λ p. p.seq == new.seq) ps) ≡ Some old → sum_by f (cond b new p ∷ map (replaced new) ps) + f old ≡ sum_by f (p ∷ ps) + f new
    go more true e k =
        let same : p ≡ old = cc k in
        let rest : map (replaced new) ps ≡ ps = map_same new ps (later_apart p ps new.seq (eqb-true p.seq new.seq e) h.0) in
        omega (arith, sum_by-cons f new (map (replaced new) ps), sum_by-cons f p ps, ap (sum_by f) rest, ap f same)
    go more false e k = omega (arith, sum_by-cons f p (map (replaced new) ps), sum_by-cons f p ps, more k)

-- ---- an entry goes

pub all_filter : (P : Pending → Type 0) (test : Pending → Bool) (ps : List Pending) → AllByRecursion P ps → AllByRecursion P (filter test ps)
all_filter P test [] h = tt
all_filter P test (p ∷ ps) h = go (test p) (all_filter P test ps h.1)
  where
    go : (b : Bool) → AllByRecursion P (filter test ps) → AllByRecursion P (cond b (p ∷ filter test ps) (filter test ps))
    go true k = (h.0, k)
    go false k = k

pub ascending_filter : (test : Pending → Bool) (ps : List Pending) → IsAscending ps → IsAscending (filter test ps)
ascending_filter test [] h = tt
ascending_filter test (p ∷ ps) h = go (test p) (ascending_filter test ps h.1)
  where
    go : (b : Bool) → IsAscending (filter test ps) → IsAscending (cond b (p ∷ filter test ps) (filter test ps))
    go true k = (all_filter (λ q. p.seq < q.seq) test ps h.0, k)
    go false k = k

pub sum_removed : (f : Pending → ℕ) (seq : ℕ) (e : Pending) (ps : List Pending) → IsAscending ps → find (λ p. p.seq == seq) ps ≡ Some e → sum_by f (filter (λ p. not (p.seq == seq)) ps) + f e ≡ sum_by f ps
sum_removed f seq e [] h found = absurd cc
sum_removed f seq e (p ∷ ps) h found = go (sum_removed f seq e ps h.1) (p.seq == seq) refl found
  where
    rest : List Pending
    rest = filter (λ p. not (p.seq == seq)) ps

    go : (find (λ p. p.seq == seq) ps ≡ Some e → sum_by f rest + f e ≡ sum_by f ps) → (b : Bool) → (p.seq == seq) ≡ b → cond b (Some p) (find (λ p. p.seq == seq) ps) ≡ Some e → sum_by f (cond (not b) (p ∷ rest) rest) + f e ≡ sum_by f (p ∷ ps)
    go more true w k =
        let same : p ≡ e = cc k in
        let all : rest ≡ ps = filter_same (λ p. p.seq == seq) ps (later_apart p ps seq (eqb-true p.seq seq w) h.0) in
        omega (arith, sum_by-cons f p ps, ap (sum_by f) all, ap f same)
    go more false w k = omega (arith, sum_by-cons f p rest, sum_by-cons f p ps, more k)

pub length_sum : (ps : List Pending) → length ps ≡ sum_by (λ p. 1) ps
length_sum [] = refl
length_sum (p ∷ ps) = omega (arith, sum_by-cons (λ (p : Pending). 1) p ps, length_sum ps)
