-- A table that is filled with entries in the order of their sequences.
use Rattle.std.proofs.Common.{◌≡◌, ℕ, zero, suc, ◌+◌, ◌<◌, ◌≤◌, ◌==◌, Bool, true, false, cond, List, [], ◌∷◌, ◌++◌, length, take, map, refl, sym, ap, ◌∙◌, subst, arith, ◌⊎◌, inl, inr, append_assoc}
use Rattle.std.specs.Prelude.{fold, nat_lt}
use Rattle.std.proofs.lemmas.Bool.{eqb-true, lt-ltb, or_cases, or_left, or_right, true≢false, eq-eqb}
use Rattle.js_base.specs.Bytes.{has}
use Rattle.js_model.specs.declared.consumer.Pending.{Pending}
use Rattle.js_model.specs.Deliver.{with_pending}
use Rattle.js_model.specs.Lists.{Ascends, Between}
use Rattle.consumer_progress.specs.Progresses.{seqs_of}

-- all sequences are below this one
abbrev AreBelow : ℕ → List Pending → Type 0
AreBelow low ps = (n : ℕ) → has (seqs_of ps) n ≡ true → n < low

put_last : (ps : List Pending) (e : Pending) → AreBelow e.seq ps → with_pending ps e ≡ ps ++ e ∷ []
put_last [] e h = refl
put_last (p ∷ ps) e h =
    let less : p.seq < e.seq = h p.seq (or_left (p.seq == p.seq) (has (seqs_of ps) p.seq) (eq-eqb p.seq p.seq refl)) in
    ap (λ b. cond b (p ∷ with_pending ps e) (cond (p.seq == e.seq) (e ∷ ps) (e ∷ p ∷ ps))) (lt-ltb p.seq e.seq less)
    ∙ ap (λ qs. p ∷ qs) (put_last ps e (λ n k. h n (or_right (p.seq == n) (has (seqs_of ps) n) k)))

below_more : (ps : List Pending) (e : Pending) (low : ℕ) → AreBelow low ps → low ≤ e.seq → AreBelow (e.seq + 1) (ps ++ e ∷ [])
below_more [] e low h l n k = go (or_cases (e.seq == n) false k)
  where
    go : ((e.seq == n) ≡ true) ⊎ (false ≡ true) → n < e.seq + 1
    go (inl w) = let same : e.seq ≡ n = eqb-true e.seq n w in omega (arith, same)
    go (inr w) = absurd (true≢false (sym w))
below_more (p ∷ ps) e low h l n k = go (below_more ps e low (λ m q. h m (or_right (p.seq == m) (has (seqs_of ps) m) q)) l n) (or_cases (p.seq == n) (has (seqs_of (ps ++ e ∷ [])) n) k)
  where
    go : (has (seqs_of (ps ++ e ∷ [])) n ≡ true → n < e.seq + 1) → ((p.seq == n) ≡ true) ⊎ (has (seqs_of (ps ++ e ∷ [])) n ≡ true) → n < e.seq + 1
    go more (inl w) = let less : n < low = h n (or_left (p.seq == n) (has (seqs_of ps) n) w) in omega (arith, less, l)
    go more (inr w) = more w

pub one_longer : (ps : List Pending) (e : Pending) → length (with_pending ps e) ≤ length ps + 1
one_longer [] e = omega arith
one_longer (p ∷ ps) e = go (nat_lt p.seq e.seq) (p.seq == e.seq) (one_longer ps e)
  where
    go : (a b : Bool) → length (with_pending ps e) ≤ length ps + 1 → length (cond a (p ∷ with_pending ps e) (cond b (e ∷ ps) (e ∷ p ∷ ps))) ≤ length (p ∷ ps) + 1
    go true b h = omega (arith, h)
    go false true h = omega arith
    go false false h = omega arith

taken_length : {X : Type 0} (i : ℕ) (xs : List X) → length (take i xs) ≤ i
taken_length zero xs = omega arith
taken_length (suc i) [] = omega arith
taken_length (suc i) (x ∷ xs) = let h : length (take i xs) ≤ i = taken_length i xs in omega (arith, h)

module _ {X : Type 0} (f : X → Pending) where
  filled : (ts : List Pending) (low : ℕ) (xs : List X) → AreBelow low ts → Ascends low (seqs_of (map f xs)) → fold (λ ps x. with_pending ps (f x)) ts xs ≡ ts ++ map f xs
  filled ts low [] h k = nothing ts
    where
      nothing : (ps : List Pending) → ps ≡ ps ++ []
      nothing [] = refl
      nothing (p ∷ ps) = ap (λ qs. p ∷ qs) (nothing ps)
  filled ts low (x ∷ xs) h k =
      let first : low ≤ (f x).seq = k.0 in
      ap (λ ps. fold (λ ps x. with_pending ps (f x)) ps xs) (put_last ts (f x) (λ n w. let less : n < low = h n w in omega (arith, less, first)))
      ∙ filled (ts ++ f x ∷ []) ((f x).seq + 1) xs (below_more ts (f x) low h first) k.1
      ∙ append_assoc ts (f x ∷ []) (map f xs)

  -- the entries, one after the other
  pub filled_all : (xs : List X) → Ascends 0 (seqs_of (map f xs)) → fold (λ ps x. with_pending ps (f x)) [] xs ≡ map f xs
  filled_all xs h = filled [] 0 xs (λ n k. absurd (true≢false (sym k))) h

  from_length : (ts : List Pending) (xs : List X) → length (fold (λ ps x. with_pending ps (f x)) ts xs) ≤ length ts + length xs
  from_length ts [] = omega arith
  from_length ts (x ∷ xs) = omega (arith, from_length (with_pending ts (f x)) xs, one_longer ts (f x))

  pub filled_length : (xs : List X) (i : ℕ) → i < length xs → length (fold (λ ps x. with_pending ps (f x)) [] (take i xs)) + 1 ≤ length xs
  filled_length xs i h = omega (arith, from_length [] (take i xs), taken_length i xs, h)

-- a pick, or a sequence that is given up
abbrev pub plain : ℕ → ℕ → Pending
plain due n = record { seq = n; count = 0; due = due }

abbrev pub own : Pending → Pending
own p = record { seq = p.seq; count = p.count; due = p.due }

pub seqs_same : (due : ℕ) (ns : List ℕ) → seqs_of (map (plain due) ns) ≡ ns
seqs_same due [] = refl
seqs_same due (n ∷ ns) = ap (λ ms. n ∷ ms) (seqs_same due ns)

pub same_entries : (ps : List Pending) → map own ps ≡ ps
same_entries [] = refl
same_entries (p ∷ ps) = ap (λ qs. p ∷ qs) (same_entries ps)

pub ascends_from : {X : Type 0} (f : X → ℕ) (low high : ℕ) (xs : List X) → Between f low high xs → Ascends low (map f xs)
ascends_from f low high [] h = tt
ascends_from f low high (x ∷ xs) h = (h.0, ascends_from f (f x + 1) high xs h.1)

pub ascends_same : (low high : ℕ) (ns : List ℕ) → Between (λ n. n) low high ns → Ascends low ns
ascends_same low high [] h = tt
ascends_same low high (n ∷ ns) h = (h.0, ascends_same (n + 1) high ns h.1)

taken_all : {X : Type 0} (i : ℕ) (xs : List X) → length xs ≤ i → take i xs ≡ xs
taken_all zero [] h = refl
taken_all zero (x ∷ xs) h = absurd (omega (arith, h))
taken_all (suc i) [] h = refl
taken_all (suc i) (x ∷ xs) h = ap (λ ys. x ∷ ys) (taken_all i xs (omega (arith, h)))

-- ---- a whole table

pub filled_seqs : (due : ℕ) (ns : List ℕ) (i : ℕ) (table : List Pending) → length ns ≤ i → Ascends 0 ns → table ≡ fold (λ ps n. with_pending ps (plain due n)) [] (take i ns) → seqs_of table ≡ ns
filled_seqs due ns i table l h is =
    ap seqs_of (is ∙ ap (λ ms. fold (λ ps n. with_pending ps (plain due n)) [] ms) (taken_all i ns l) ∙ filled_all (plain due) ns (subst (Ascends 0) (sym (seqs_same due ns)) h)) ∙ seqs_same due ns

pub filled_entries : (es : List Pending) (i : ℕ) (table : List Pending) → length es ≤ i → Ascends 0 (seqs_of es) → table ≡ fold (λ ps e. with_pending ps (own e)) [] (take i es) → table ≡ es
filled_entries es i table l h is =
    is ∙ ap (λ ms. fold (λ ps e. with_pending ps (own e)) [] ms) (taken_all i es l) ∙ filled_all own es (subst (λ qs. Ascends 0 (seqs_of qs)) (sym (same_entries es)) h) ∙ same_entries es
