-- What is put at its place in an ordered list.
use Rattle.std.proofs.Common.{◌≡◌, ◌≢◌, ℕ, suc, ◌+◌, ◌<◌, ◌≤◌, Bool, true, false, cond, not, List, [], ◌∷◌, length, get_or, set, nat_lt, nat_le, refl, sym, ap, ◌∙◌, arith, eq-eqb}
use Rattle.std.specs.Prelude.{◌==◌, Option, Some, None, unwrap_or}
use Rattle.std.specs.List.{insert, position, position_or_len}
use Rattle.std.proofs.lemmas.Bool.{ne_eqb}
use Rattle.std.proofs.lemmas.Bool.Decides.{nat_tests}
use Rattle.js_model.specs.declared.consumer.Pending.{Pending}
use Rattle.js_model.specs.declared.consumer.Consumer.{Consumer}
use Rattle.js_model.specs.Advance.{placed}
use Rattle.js_model.specs.Deliver.{with_pending}
use Rattle.js_model.specs.Consumers.{is_before, with_new}

pub one_more : (n : ℕ) → 1 + n ≡ suc n
one_more n = omega arith

insert_further : {X : Type 0} (x y : X) (xs : List X) (k : ℕ) → insert (x ∷ xs) (1 + k) y ≡ x ∷ insert xs k y
insert_further x y xs k = ap (λ (n : ℕ). insert (x ∷ xs) n y) (one_more k)

set_further : {X : Type 0} (x y : X) (xs : List X) (k : ℕ) → set (x ∷ xs) (1 + k) y ≡ x ∷ set xs k y
set_further x y xs k = ap (λ (n : ℕ). set (x ∷ xs) n y) (one_more k)

not_less : (m n : ℕ) → nat_lt m n ≡ not (nat_le n m)
not_less m n = grind (arith, nat_tests)

-- ---- the place as it is answered

at_most : {X : Type 0} (t : X → Bool) (xs : List X) → position_or_len t xs ≤ length xs
at_most t [] = omega arith
at_most t (x ∷ xs) = go (t x) (at_most t xs)
  where
    go : (b : Bool) → position_or_len t xs ≤ length xs → cond (not b) (1 + position_or_len t xs) 0 ≤ length (x ∷ xs)
    go true h = omega arith
    go false h = omega (arith, h)

or_end : (n len : ℕ) → n ≤ len → unwrap_or (cond (nat_lt n len) (Some n) None) len ≡ n
or_end n len h = go (nat_lt n len) refl
  where
    go : (b : Bool) → nat_lt n len ≡ b → unwrap_or (cond b (Some n) None) len ≡ n
    go true e = refl
    go false e = let f : len ≤ n = grind (arith, nat_tests) in omega (arith, h, f)

pub place_is : {X : Type 0} (t : X → Bool) (xs : List X) (o : Option ℕ) (k len : ℕ) → o ≡ position t xs → k ≡ unwrap_or o len → len ≡ length xs → k ≡ position_or_len t xs
place_is t xs o k len e f g = f ∙ ap (λ (x : Option ℕ). unwrap_or x len) e ∙ ap (λ (n : ℕ). unwrap_or (position t xs) n) g ∙ or_end (position_or_len t xs) (length xs) (at_most t xs)

-- ---- sequences

pub placed_at : (n : ℕ) (ms : List ℕ) → insert ms (position_or_len (λ m. nat_le n m) ms) n ≡ placed ms n
placed_at n [] = refl
placed_at n (m ∷ ms) = go (nat_le n m) refl (placed_at n ms)
  where
    go : (b : Bool) → nat_le n m ≡ b → insert ms (position_or_len (λ k. nat_le n k) ms) n ≡ placed ms n
        → insert (m ∷ ms) (cond (not b) (1 + position_or_len (λ k. nat_le n k) ms) 0) n ≡ cond (nat_lt m n) (m ∷ placed ms n) (n ∷ m ∷ ms)
    go true e h = ap (λ (b : Bool). cond b (m ∷ placed ms n) (n ∷ m ∷ ms)) (sym (not_less m n ∙ ap not e))
    go false e h =
        insert_further m n ms (position_or_len (λ k. nat_le n k) ms) ∙ ap (λ (l : List ℕ). m ∷ l) h
        ∙ ap (λ (b : Bool). cond b (m ∷ placed ms n) (n ∷ m ∷ ms)) (sym (not_less m n ∙ ap not e))

-- ---- entries

abbrev place : Pending → List Pending → ℕ
place new ps = position_or_len (λ p. nat_le new.seq p.seq) ps

-- the entry at the place has another sequence, or there is none
pub entry_at : (new : Pending) (ps : List Pending) → (place new ps < length ps → (get_or ps (place new ps) new).seq ≢ new.seq) → insert ps (place new ps) new ≡ with_pending ps new
entry_at new [] other = refl
entry_at new (p ∷ ps) other = go (nat_le new.seq p.seq) refl (entry_at new ps) other
  where
    whole : (b c : Bool) → nat_lt p.seq new.seq ≡ b → (p.seq == new.seq) ≡ c → with_pending (p ∷ ps) new ≡ cond b (p ∷ with_pending ps new) (cond c (new ∷ ps) (new ∷ p ∷ ps))
    whole b c e f = ap (λ (x : Bool). cond x (p ∷ with_pending ps new) (cond (p.seq == new.seq) (new ∷ ps) (new ∷ p ∷ ps))) e ∙ ap (λ (x : Bool). cond b (p ∷ with_pending ps new) (cond x (new ∷ ps) (new ∷ p ∷ ps))) f

    go : (b : Bool) → nat_le new.seq p.seq ≡ b → ((place new ps < length ps → (get_or ps (place new ps) new).seq ≢ new.seq) → insert ps (place new ps) new ≡ with_pending ps new)
        → (cond (not b) (1 + place new ps) 0 < length (p ∷ ps) → (get_or (p ∷ ps) (cond (not b) (1 + place new ps) 0) new).seq ≢ new.seq)
        → insert (p ∷ ps) (cond (not b) (1 + place new ps) 0) new ≡ with_pending (p ∷ ps) new
    go true e h o = sym (whole false false (not_less p.seq new.seq ∙ ap not e) (ne_eqb p.seq new.seq (o (omega arith))))
    go false e h o =
        insert_further p new ps (place new ps)
        ∙ ap (λ (l : List Pending). p ∷ l) (h (λ l same. o (omega (arith, l)) (ap (λ (n : ℕ). (get_or (p ∷ ps) n new).seq) (one_more (place new ps)) ∙ same)))
        ∙ sym (whole true (p.seq == new.seq) (not_less p.seq new.seq ∙ ap not e) refl)

-- the entry at the place has this sequence
pub entry_over : (new : Pending) (ps : List Pending) → place new ps < length ps → (get_or ps (place new ps) new).seq ≡ new.seq → set ps (place new ps) new ≡ with_pending ps new
entry_over new [] within same = absurd (omega (arith, within))
entry_over new (p ∷ ps) within same = go (nat_le new.seq p.seq) refl (entry_over new ps) within same
  where
    whole : (b c : Bool) → nat_lt p.seq new.seq ≡ b → (p.seq == new.seq) ≡ c → with_pending (p ∷ ps) new ≡ cond b (p ∷ with_pending ps new) (cond c (new ∷ ps) (new ∷ p ∷ ps))
    whole b c e f = ap (λ (x : Bool). cond x (p ∷ with_pending ps new) (cond (p.seq == new.seq) (new ∷ ps) (new ∷ p ∷ ps))) e ∙ ap (λ (x : Bool). cond b (p ∷ with_pending ps new) (cond x (new ∷ ps) (new ∷ p ∷ ps))) f

    go : (b : Bool) → nat_le new.seq p.seq ≡ b → (place new ps < length ps → (get_or ps (place new ps) new).seq ≡ new.seq → set ps (place new ps) new ≡ with_pending ps new)
        → cond (not b) (1 + place new ps) 0 < length (p ∷ ps) → (get_or (p ∷ ps) (cond (not b) (1 + place new ps) 0) new).seq ≡ new.seq
        → set (p ∷ ps) (cond (not b) (1 + place new ps) 0) new ≡ with_pending (p ∷ ps) new
    go true e h w s = sym (whole false true (not_less p.seq new.seq ∙ ap not e) (eq-eqb p.seq new.seq s))
    go false e h w s =
        set_further p new ps (place new ps)
        ∙ ap (λ (l : List Pending). p ∷ l) (h (omega (arith, w)) (sym (ap (λ (n : ℕ). (get_or (p ∷ ps) n new).seq) (one_more (place new ps))) ∙ s))
        ∙ sym (whole true (p.seq == new.seq) (not_less p.seq new.seq ∙ ap not e) refl)

-- ---- consumers

pub new_at : (new : Consumer) (cs : List Consumer) → insert cs (position_or_len (λ c. not (is_before c.name new.name)) cs) new ≡ with_new cs new
new_at new [] = refl
new_at new (c ∷ cs) = go (is_before c.name new.name) (new_at new cs)
  where
    go : (b : Bool) → insert cs (position_or_len (λ d. not (is_before d.name new.name)) cs) new ≡ with_new cs new
        → insert (c ∷ cs) (cond (not (not b)) (1 + position_or_len (λ d. not (is_before d.name new.name)) cs) 0) new ≡ cond b (c ∷ with_new cs new) (new ∷ c ∷ cs)
    go true h = insert_further c new cs (position_or_len (λ d. not (is_before d.name new.name)) cs) ∙ ap (λ (l : List Consumer). c ∷ l) h
    go false h = refl
