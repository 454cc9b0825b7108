-- Messages that leave a store, a range of them or the first.
use Rattle.std.proofs.Common.{◌≡◌, ℕ, ◌+◌, ◌<◌, ◌≤◌, ◌==◌, ◌&&◌, Bool, true, false, cond, not, List, [], ◌∷◌, Option, Some, None, length, refl, sym, ap, subst, ◌∙◌, arith}
use Rattle.std.specs.Prelude.{filter, find, nat_le, option_map}
use Rattle.std.proofs.lemmas.Bool.{eqb-true, eq-eqb, ne_eqb}
use Rattle.std.proofs.lemmas.Bool.Decides.{nat_tests}
use Rattle.js_model.specs.declared.stream.Message.{Message}
use Rattle.js_model.specs.Counts.{first_message}
use Rattle.js_model.specs.Lists.{Between}
use Rattle.effects.specs.Ranges.{is_within}

abbrev Ascending : ℕ → ℕ → List Message → Type 0
Ascending low high ms = Between (λ m. m.seq) low high ms

abbrev pub is_in : ℕ → ℕ → Message → Bool
is_in low high m = is_within low high m.seq

abbrev pub without : ℕ → List Message → List Message
without n ms = filter (λ m. not (m.seq == n)) ms

abbrev pub outside : ℕ → ℕ → List Message → List Message
outside low high ms = filter (λ m. not (is_in low high m)) ms

-- ---- one of the range goes first

range_later : (low high n : ℕ) (ms : List Message) → is_within low high n ≡ true → outside low high (without n ms) ≡ outside low high ms
range_later low high n [] h = refl
range_later low high n (m ∷ ms) h = go (m.seq == n) refl (range_later low high n ms h)
  where
    go : (b : Bool) → (m.seq == n) ≡ b → outside low high (without n ms) ≡ outside low high ms → outside low high (cond (not b) (m ∷ without n ms) (without n ms)) ≡ outside low high (m ∷ ms)
    go true e k =
        let inside : is_in low high m ≡ true = ap (is_within low high) (eqb-true m.seq n e) ∙ h in
        k ∙ sym (ap (λ b. cond (not b) (m ∷ outside low high ms) (outside low high ms)) inside)
    go false e k = ap (λ (ns : List Message). cond (not (is_in low high m)) (m ∷ ns) ns) k

range_done : (low high : ℕ) (ms : List Message) → find (is_in low high) ms ≡ None → outside low high ms ≡ ms
range_done low high [] h = refl
range_done low high (m ∷ ms) h = go (is_in low high m) h (range_done low high ms)
  where
    go : (b : Bool) → cond b (Some m) (find (is_in low high) ms) ≡ None → (find (is_in low high) ms ≡ None → outside low high ms ≡ ms) → cond (not b) (m ∷ outside low high ms) (outside low high ms) ≡ m ∷ ms
    go true k more = absurd cc
    go false k more = ap (λ (ns : List Message). m ∷ ns) (more k)

shorter_or_same : (n : ℕ) (ms : List Message) → length (without n ms) ≤ length ms
shorter_or_same n [] = omega arith
shorter_or_same n (m ∷ ms) = go (m.seq == n) (shorter_or_same n ms)
  where
    go : (b : Bool) → length (without n ms) ≤ length ms → length (cond (not b) (m ∷ without n ms) (without n ms)) ≤ length (m ∷ ms)
    go true k = omega (arith, k)
    go false k = omega (arith, k)

shorter : (test : Message → Bool) (q : Message) (ms : List Message) → find test ms ≡ Some q → length (without q.seq ms) < length ms
shorter test q [] h = absurd cc
shorter test q (m ∷ ms) h = go (shorter test q ms) (test m) h
  where
    go : (find test ms ≡ Some q → length (without q.seq ms) < length ms) → (b : Bool) → cond b (Some m) (find test ms) ≡ Some q → length (cond (not (m.seq == q.seq)) (m ∷ without q.seq ms) (without q.seq ms)) < length (m ∷ ms)
    go more true k =
        let same : m ≡ q = cc k in
        let at : m.seq ≡ q.seq = ap (λ (x : Message). x.seq) same in
        rw (eq-eqb m.seq q.seq at) (omega (arith, shorter_or_same q.seq ms))
    go more false k = either (m.seq == q.seq) (more k)
      where
        either : (b : Bool) → length (without q.seq ms) < length ms → length (cond (not b) (m ∷ without q.seq ms) (without q.seq ms)) < length (m ∷ ms)
        either true l = omega (arith, l)
        either false l = omega (arith, l)

found_passes : (test : Message → Bool) (q : Message) (ms : List Message) → find test ms ≡ Some q → test q ≡ true
found_passes test q [] h = absurd cc
found_passes test q (m ∷ ms) h = go (test m) refl h (found_passes test q ms)
  where
    go : (b : Bool) → test m ≡ b → cond b (Some m) (find test ms) ≡ Some q → (find test ms ≡ Some q → test q ≡ true) → test q ≡ true
    go true e k more = let same : m ≡ q = cc k in subst (λ (x : Message). test x ≡ true) same e
    go false e k more = more k

-- ---- the first of a range

upto_high : (n m : ℕ) → n ≤ m → nat_le n m ≡ true
upto_high n m h = grind (arith, nat_tests)

above_high : (n m : ℕ) → m < n → nat_le n m ≡ false
above_high n m h = grind (arith, nat_tests)

and_false : (a b : Bool) → b ≡ false → (a && b) ≡ false
and_false true b h = h
and_false false b h = refl

first_of_range : (low high : ℕ) (ms : List Message) (q : Message) → find (λ m. nat_le low m.seq) ms ≡ Some q → q.seq ≤ high → find (is_in low high) ms ≡ Some q
first_of_range low high [] q h upto = absurd cc
first_of_range low high (m ∷ ms) q h upto = go (λ k. first_of_range low high ms q k upto) (nat_le low m.seq) h
  where
    go : (find (λ m. nat_le low m.seq) ms ≡ Some q → find (is_in low high) ms ≡ Some q) → (b : Bool) → cond b (Some m) (find (λ m. nat_le low m.seq) ms) ≡ Some q
        → cond (b && nat_le m.seq high) (Some m) (find (is_in low high) ms) ≡ Some q
    go more true k =
        let same : m ≡ q = cc k in
        let at : m.seq ≡ q.seq = ap (λ (x : Message). x.seq) same in
        let inside : nat_le m.seq high ≡ true = ap (λ n. nat_le n high) at ∙ upto_high q.seq high upto in
        ap (λ b. cond b (Some m) (find (is_in low high) ms)) inside ∙ k
    go more false k = more k

none_of_range : (low high : ℕ) (ms : List Message) → find (λ m. nat_le low m.seq) ms ≡ None → find (is_in low high) ms ≡ None
none_of_range low high [] h = refl
none_of_range low high (m ∷ ms) h = go (none_of_range low high ms) (nat_le low m.seq) h
  where
    go : (find (λ m. nat_le low m.seq) ms ≡ None → find (is_in low high) ms ≡ None) → (b : Bool) → cond b (Some m) (find (λ m. nat_le low m.seq) ms) ≡ None
        → cond (b && nat_le m.seq high) (Some m) (find (is_in low high) ms) ≡ None
    go more true k = absurd cc
    go more false k = more k

none_above : (low high from end : ℕ) (ms : List Message) → Ascending from end ms → high < from → find (is_in low high) ms ≡ None
none_above low high from end [] h l = refl
none_above low high from end (m ∷ ms) h l =
    let first : from ≤ m.seq = h.0 in
    ap (λ b. cond b (Some m) (find (is_in low high) ms)) (and_false (nat_le low m.seq) (nat_le m.seq high) (above_high m.seq high (omega (arith, first, l))))
    ∙ none_above low high (m.seq + 1) end ms h.1 (omega (arith, first, l))

past_range : (low high from end : ℕ) (ms : List Message) (q : Message) → Ascending from end ms → find (λ m. nat_le low m.seq) ms ≡ Some q → high < q.seq → find (is_in low high) ms ≡ None
past_range low high from end [] q h found past = absurd cc
past_range low high from end (m ∷ ms) q h found past = go (λ k. past_range low high (m.seq + 1) end ms q h.1 k past) (nat_le low m.seq) found
  where
    go : (find (λ m. nat_le low m.seq) ms ≡ Some q → find (is_in low high) ms ≡ None) → (b : Bool) → cond b (Some m) (find (λ m. nat_le low m.seq) ms) ≡ Some q
        → cond (b && nat_le m.seq high) (Some m) (find (is_in low high) ms) ≡ None
    go more true k =
        let same : m ≡ q = cc k in
        let at : m.seq ≡ q.seq = ap (λ (x : Message). x.seq) same in
        ap (λ b. cond b (Some m) (find (is_in low high) ms)) (above_high m.seq high (omega (arith, at, past)))
        ∙ none_above low high (m.seq + 1) end ms h.1 (omega (arith, at, past))
    go more false k = more k

abbrev seq_of : Option Message → Option ℕ
seq_of o = option_map (λ m. m.seq) o

pub range_first : (low high : ℕ) (ms : List Message) (q : Message) → find (λ m. nat_le low m.seq) ms ≡ Some q → q.seq ≤ high → Some q.seq ≡ seq_of (find (is_in low high) ms)
range_first low high ms q found upto = ap seq_of (sym (first_of_range low high ms q found upto))

pub range_past : (low high end : ℕ) (ms : List Message) (q : Message) → Ascending 1 end ms → find (λ m. nat_le low m.seq) ms ≡ Some q → high < q.seq → None ≡ seq_of (find (is_in low high) ms)
range_past low high end ms q h found past = ap seq_of (sym (past_range low high 1 end ms q h found past))

pub range_empty : (low high : ℕ) (ms : List Message) → find (λ m. nat_le low m.seq) ms ≡ None → None ≡ seq_of (find (is_in low high) ms)
range_empty low high ms found = ap seq_of (sym (none_of_range low high ms found))

-- ---- step by step

pub range_step : (low high n : ℕ) (ms : List Message) (o : Option Message) → find (is_in low high) ms ≡ o → Some n ≡ seq_of o → (outside low high (without n ms) ≡ outside low high ms) × (length (without n ms) < length ms)
range_step low high n ms None f h = absurd cc
range_step low high n ms (Some q) f h =
    let same : n ≡ q.seq = cc h in (
      range_later low high n ms (ap (is_within low high) same ∙ found_passes (is_in low high) q ms f),
      subst (λ (k : ℕ). length (without k ms) < length ms) (sym same) (shorter (is_in low high) q ms f),
    )

pub range_end : (low high : ℕ) (ms : List Message) (o : Option Message) → find (is_in low high) ms ≡ o → None ≡ seq_of o → outside low high ms ≡ ms
range_end low high ms None f h = range_done low high ms f
range_end low high ms (Some q) f h = absurd cc

-- ---- the first goes

not_there : (n low high : ℕ) (ms : List Message) → n < low → Ascending low high ms → without n ms ≡ ms
not_there n low high [] l h = refl
not_there n low high (m ∷ ms) l h =
    let first : low ≤ m.seq = h.0 in
    ap (λ b. cond (not b) (m ∷ without n ms) (without n ms)) (ne_eqb m.seq n (λ e. omega (arith, first, l, e)))
    ∙ ap (λ (ns : List Message). m ∷ ns) (not_there n (m.seq + 1) high ms (omega (arith, first, l)) h.1)

-- the list is its first message and the rest, and that message is found by its sequence
pub first_goes : (low high : ℕ) (ms : List Message) (q : Message) → Ascending low high ms → first_message ms ≡ Some q → (ms ≡ q ∷ without q.seq ms) × (find (λ m. m.seq == q.seq) ms ≡ Some q)
first_goes low high [] q h first = absurd cc
first_goes low high (m ∷ ms) q h first =
    let same : m ≡ q = cc first in
    let at : m.seq ≡ q.seq = ap (λ (x : Message). x.seq) same in
    let here = eq-eqb m.seq q.seq at in (
      ap (λ (x : Message). x ∷ ms) same
          ∙ ap (λ (ns : List Message). q ∷ ns) (sym (ap (λ b. cond (not b) (m ∷ without q.seq ms) (without q.seq ms)) here ∙ not_there q.seq (m.seq + 1) high ms (omega (arith, at)) h.1)),
      ap (λ b. cond b (Some m) (find (λ x. x.seq == q.seq) ms)) here ∙ ap Some same,
    )

pub none_first : (ms : List Message) → first_message ms ≡ None → ms ≡ []
none_first [] h = refl
none_first (m ∷ ms) h = absurd cc
