-- The least delivery: it is there, and what ends before it.
use Rattle.std.proofs.Common.{◌≡◌, ℕ, ◌+◌, ◌<◌, ◌≤◌, ◌-◌, ◌==◌, ◌||◌, Bool, true, false, cond, not, min, drop, suc, List, [], ◌∷◌, Option, Some, None, refl, sym, ap, ◌∙◌, arith}
use Rattle.std.specs.Prelude.{filter, nat_le, length}
use Rattle.std.proofs.lemmas.Bool.{eq-eqb, eqb-false, lt-ltb, ne_eqb, or_left, or_right}
use Rattle.std.proofs.lemmas.Bool.Decides.{nat_tests}
use Rattle.js_base.specs.Bytes.{has, last_of}
use Rattle.js_model.specs.declared.consumer.Pending.{Pending}
use Rattle.js_model.specs.Lists.{Between}
use Rattle.consumer_progress.specs.Progresses.{first_of, seqs_of, IsProgress, Progress}
use Rattle.consumer_progress.specs.Ending.{ended, is_delivered, least_delivered, lesser}
use Rattle.consumer_progress.specs.GivingUp.{rest_of, without_overflow}

-- the sequence, if there is one, comes after this one
abbrev pub IsAfter : ℕ → Option ℕ → Type 0
IsAfter seq None = Unit {0}
IsAfter seq (Some n) = seq < n

both_after : (seq : ℕ) (m n : Option ℕ) → IsAfter seq (lesser m n) → IsAfter seq m × IsAfter seq n
both_after seq None n h = (tt, h)
both_after seq (Some m) None h = (h, tt)
both_after seq (Some m) (Some n) h = let q : seq < min m n = h in (omega (arith, q), omega (arith, q))

not_upto : (n seq : ℕ) → seq < n → nat_le n seq ≡ false
not_upto n seq h = grind (arith, nat_tests)

-- nothing of an ascending list is taken out up to a sequence before it
all_after : {X : Type 0} (f : X → ℕ) (seq low high : ℕ) (xs : List X) → Between f low high xs → seq < low → filter (λ x. not (nat_le (f x) seq)) xs ≡ xs
all_after f seq low high [] h l = refl
all_after f seq low high (x ∷ xs) h l =
    let q : low ≤ f x = h.0 in
    ap (λ b. cond (not b) (x ∷ filter (λ x. not (nat_le (f x) seq)) xs) (filter (λ x. not (nat_le (f x) seq)) xs)) (not_upto (f x) seq (omega (arith, q, l)))
    ∙ ap (λ ys. x ∷ ys) (all_after f seq (f x + 1) high xs h.1 (omega (arith, q, l)))

pending_after : (seq low high : ℕ) (ps : List Pending) → Between (λ e. e.seq) low high ps → IsAfter seq (first_of (seqs_of ps)) → filter (λ e. not (nat_le e.seq seq)) ps ≡ ps
pending_after seq low high [] h l = refl
pending_after seq low high (p ∷ ps) h l = all_after (λ e. e.seq) seq p.seq high (p ∷ ps) (omega arith, h.1) l

given_up_after : (seq low high : ℕ) (ns : List ℕ) → Between (λ n. n) low high ns → IsAfter seq (first_of ns) → filter (λ n. not (nat_le n seq)) ns ≡ ns
given_up_after seq low high [] h l = refl
given_up_after seq low high (n ∷ ns) h l = all_after (λ n. n) seq n high (n ∷ ns) (omega arith, h.1) l

pub nothing_ended : (seq : ℕ) (p : Progress) → IsProgress p → (o : Option ℕ) → o ≡ least_delivered p → IsAfter seq o → ended (λ n. nat_le n seq) p ≡ p
nothing_ended seq p k o is h =
    let both = both_after seq (first_of (seqs_of p.pending)) (first_of p.given_up) (rw is at h) in
    ap (λ (ps : List Pending). record p { pending = ps; given_up = filter (λ n. not (nat_le n seq)) p.given_up }) (pending_after seq 0 p.cursor p.pending k.pending both.0)
    ∙ ap (λ (ns : List ℕ). record p { given_up = ns }) (given_up_after seq 0 p.cursor p.given_up k.given_up both.1)

least_there : (ms ns : List ℕ) (n : ℕ) → Some n ≡ lesser (first_of ms) (first_of ns) → (has ms n || has ns n) ≡ true
least_there [] [] n h = absurd cc
least_there (m ∷ ms) [] n h = let same : n ≡ m = cc h in or_left (has (m ∷ ms) n) false (or_left (m == n) (has ms n) (eq-eqb m n (sym same)))
least_there [] (m ∷ ns) n h = let same : n ≡ m = cc h in or_left (m == n) (has ns n) (eq-eqb m n (sym same))
least_there (l ∷ ms) (m ∷ ns) n h = go (l == n) refl
  where
    same : n ≡ min l m
    same = cc h

    go : (b : Bool) → (l == n) ≡ b → ((b || has ms n) || ((m == n) || has ns n)) ≡ true
    go true e = refl
    go false e = let other : l ≡ n → ⊥ = eqb-false l n e in or_right (has ms n) ((m == n) || has ns n) (or_left (m == n) (has ns n) (eq-eqb m n (omega (arith, same, other))))

pub least_delivered_there : (p : Progress) (n : ℕ) → Some n ≡ least_delivered p → is_delivered p n ≡ true
least_delivered_there p n h = least_there (seqs_of p.pending) p.given_up n h

-- ---- the first of those that are given up goes

not_later : (n low high : ℕ) (ns : List ℕ) → Between (λ n. n) low high ns → n < low → filter (λ m. not (m == n)) ns ≡ ns
not_later n low high [] h l = refl
not_later n low high (m ∷ ns) h l =
    let q : low ≤ m = h.0 in
    ap (λ b. cond (not b) (m ∷ filter (λ m. not (m == n)) ns) (filter (λ m. not (m == n)) ns)) (ne_eqb m n (λ e. omega (arith, e, q, l)))
    ∙ ap (λ ms. m ∷ ms) (not_later n (m + 1) high ns h.1 (omega (arith, q, l)))

pub first_dropped : (n low high : ℕ) (ns : List ℕ) → Between (λ n. n) low high ns → Some n ≡ first_of ns → filter (λ m. not (m == n)) ns ≡ rest_of ns
first_dropped n low high [] h f = absurd cc
first_dropped n low high (m ∷ ns) h f =
    let same : n ≡ m = cc f in
    ap (λ b. cond (not b) (m ∷ filter (λ m. not (m == n)) ns) (filter (λ m. not (m == n)) ns)) (eq-eqb m n (sym same)) ∙ not_later n (m + 1) high ns h.1 (omega (arith, same))

pub last_same : (ns : List ℕ) → length ns ≤ 65536 → last_of 65536 ns ≡ ns
last_same ns h = ap (λ (k : ℕ). drop k ns) (let none : length ns - 65536 ≡ 0 = omega (arith, h) in none)

pub last_rest : (ns : List ℕ) → 65536 < length ns → last_of 65536 (rest_of ns) ≡ last_of 65536 ns
last_rest [] h = absurd (omega (arith, h))
last_rest (n ∷ ns) h = sym (ap (λ (k : ℕ). drop k (n ∷ ns)) (let more : suc (length ns) - 65536 ≡ suc (length ns - 65536) = omega (arith, h) in more))

pub none_first : (ns : List ℕ) → None ≡ first_of ns → last_of 65536 ns ≡ ns
none_first [] h = refl
none_first (n ∷ ns) h = absurd cc

pub dropped_overflow : (n : ℕ) (p : Progress) → IsProgress p → 65536 < length p.given_up → Some n ≡ first_of p.given_up → record p { given_up = filter (λ m. not (m == n)) p.given_up } ≡ without_overflow p
dropped_overflow n p k h f =
    ap (λ (ns : List ℕ). record p { given_up = ns })
    (first_dropped n 0 p.cursor p.given_up k.given_up f ∙ sym (ap (λ b. cond b (rest_of p.given_up) p.given_up) (lt-ltb 65536 (length p.given_up) h)))
