-- Where a sequence stands among ascending ones.
use Rattle.std.proofs.Common.{◌≡◌, ℕ, ◌+◌, ◌<◌, ◌≤◌, Bool, true, false, cond, List, [], ◌∷◌, ◌++◌, refl, sym, ap, subst, ◌∙◌, arith, ◌⊎◌, inl, inr}
use Rattle.std.specs.Prelude.{◌==◌, nat_le, not, filter, find, Option, Some, None}
use Rattle.std.proofs.lemmas.Bool.{true≢false, false_from_ne_true, eq-eqb, eqb-true, ne_eqb, leb-true, leb-false, ltb-true, lt-ltb}
use Rattle.js_base.specs.Bytes.{has}
use Rattle.js_model.specs.Events.{is_below}
use Rattle.js_model.specs.Lists.{Between, IsPart, keep}
use Rattle.js_model.specs.Streams.{seqs}
use Rattle.js_model.specs.declared.stream.Message.{Message}
use Rattle.js_model.proofs.Lacking.{has-not}
use Rattle.js_model.proofs.Members.{IsIn, here, there, in_any, in_append, in_bounds, in_cons}
use Rattle.js_model.proofs.Parts.{filter_part, no_part}
use Rattle.model_laws.proofs.SoundParts.{has-filter, has-kept}
use Rattle.removals.proofs.Pushing.{last_leaves}

-- ---- members

pub filter_in : {X : Type 0} (t : X → Bool) {x : X} {xs : List X} → IsIn x xs → t x ≡ true → IsIn x (filter t xs)
filter_in t {x} (here {xs = xs}) e = subst (λ b. IsIn x (cond b (x ∷ filter t xs) (filter t xs))) (sym e) here
filter_in {X} t {x} (there {y = y} {xs = xs} i) e = go (t y) (filter_in t i e)
  where
    go : (b : Bool) → IsIn x (filter t xs) → IsIn x (cond b (y ∷ filter t xs) (filter t xs))
    go true k = there k
    go false k = k

-- a message of the sequence
pub from_seqs : (n : ℕ) (ms : List Message) → IsIn n (seqs ms) → (m : Message) × IsIn m ms × (m.seq ≡ n)
from_seqs n [] i = elim i [ ]
from_seqs n (m ∷ ms) i = go (in_cons i) (from_seqs n ms)
  where
    go : (m.seq ≡ n) ⊎ IsIn n (seqs ms) → (IsIn n (seqs ms) → (x : Message) × IsIn x ms × (x.seq ≡ n)) → (x : Message) × IsIn x (m ∷ ms) × (x.seq ≡ n)
    go (inl q) k = (m, here, q)
    go (inr j) k = let w = k j in (w.0, there w.1, w.2)

pub has_in : (n : ℕ) (ns : List ℕ) → has ns n ≡ true → IsIn n ns
has_in n ns e = let w = in_any (λ m. m == n) ns e in subst (λ m. IsIn m ns) (eqb-true w.0 n w.2) w.1

pub in_back : {X : Type 0} {x : X} (xs ys : List X) → IsIn x ys → IsIn x (xs ++ ys)
in_back [] ys i = i
in_back (y ∷ xs) ys i = there (in_back xs ys i)

pub front_part : {X : Type 0} (xs ys : List X) → IsPart xs (xs ++ ys)
front_part [] ys = no_part ys
front_part (x ∷ xs) ys = keep (front_part xs ys)

-- ---- a sequence less

pub has_less : (n m : ℕ) (ns : List ℕ) → (m ≡ n → ⊥) → has (filter (λ k. not (k == n)) ns) m ≡ has ns m
has_less n m ns apart = go (has ns m) refl
  where
    go : (b : Bool) → has ns m ≡ b → has (filter (λ k. not (k == n)) ns) m ≡ has ns m
    go true e = has-kept (λ k. not (k == n)) ns m e (ap not (ne_eqb m n apart)) ∙ sym e
    go false e = has-not m (filter_part (λ k. not (k == n)) ns) e ∙ sym e

pub has_gone : (n : ℕ) (ns : List ℕ) → has (filter (λ k. not (k == n)) ns) n ≡ false
has_gone n ns = false_from_ne_true _ (λ e. absurd (true≢false (sym (has-filter (λ k. not (k == n)) ns n e) ∙ ap not (eq-eqb n n refl))))

-- ---- before and behind

pub record Split (n : ℕ) (ns : List ℕ) : Type 0 where
  pub front : List ℕ
  pub back : List ℕ
  pub whole : ns ≡ front ++ n ∷ back

pub split_in : (n : ℕ) (ns : List ℕ) → IsIn n ns → Split n ns
split_in n [] i = elim i [ ]
split_in n (m ∷ ns) i = go (in_cons i) (split_in n ns)
  where
    go : (m ≡ n) ⊎ IsIn n ns → (IsIn n ns → Split n ns) → Split n (m ∷ ns)
    go (inl q) k = record { front = []; back = ns; whole = ap (λ x. x ∷ ns) q }
    go (inr j) k = let w = k j in record { front = m ∷ w.front; back = w.back; whole = ap (λ l. m ∷ l) w.whole }

pub front_below : (low high n : ℕ) (front back : List ℕ) → Between (λ k. k) low high (front ++ n ∷ back) → (m : ℕ) → IsIn m front → m < n
front_below low high n [] back h m i = elim i [ ]
front_below low high n (x ∷ front) back h m i = go (in_cons i) (front_below (x + 1) high n front back h.1 m)
  where
    go : (x ≡ m) ⊎ IsIn m front → (IsIn m front → m < n) → m < n
    go (inl q) k = let l : x + 1 ≤ n = (in_bounds (λ k. k) (x + 1) high n (front ++ n ∷ back) h.1 (in_back front (n ∷ back) here)).0 in omega (arith, q)
    go (inr j) k = k j

pub back_above : (low high n : ℕ) (front back : List ℕ) → Between (λ k. k) low high (front ++ n ∷ back) → (m : ℕ) → IsIn m back → n < m
back_above low high n [] back h m i = let l : n + 1 ≤ m = (in_bounds (λ k. k) (n + 1) high m back h.1 i).0 in omega arith
back_above low high n (x ∷ front) back h m i = back_above (x + 1) high n front back h.1 m i

pub in_front : (low high n : ℕ) (front back : List ℕ) → Between (λ k. k) low high (front ++ n ∷ back) → (m : ℕ) → IsIn m (front ++ n ∷ back) → m < n → IsIn m front
in_front low high n front back h m i l = go (in_append front (n ∷ back) i)
  where
    other : (n ≡ m) ⊎ IsIn m back → IsIn m front
    other (inl q) = absurd (omega (arith, q))
    other (inr j) = let g : n < m = back_above low high n front back h m j in absurd (omega arith)

    go : IsIn m front ⊎ IsIn m (n ∷ back) → IsIn m front
    go (inl j) = j
    go (inr j) = other (in_cons j)

pub below_less : (below : Option ℕ) (n l : ℕ) → is_below below n ≡ true → l ≤ n → is_below below l ≡ true
below_less None n l e q = refl
below_less (Some limit) n l e q = let k : n < limit = ltb-true n limit e in lt-ltb l limit (omega arith)

-- ---- the last one

-- of ascending sequences the last one leaves if all leave from some one on, and stays if all stay from some one on
pub last_is : (p : ℕ → Bool) (b : Bool) (low high l : ℕ) (ns : List ℕ) → Between (λ k. k) low high ns → IsIn l ns → ((m : ℕ) → IsIn m ns → l ≤ m → p m ≡ b) → last_leaves p ns ≡ b
last_is p b low high l [] t i h = elim i [ ]
last_is p b low high l (x ∷ []) t i h = h x here (go (in_cons i))
  where
    go : (x ≡ l) ⊎ IsIn l [] → l ≤ x
    go (inl q) = omega (arith, q)
    go (inr j) = elim j [ ]
last_is p b low high l (x ∷ y ∷ ns) t i h = go (in_cons i) (λ k j g. last_is p b (x + 1) high k (y ∷ ns) t.1 j g)
  where
    go : (x ≡ l) ⊎ IsIn l (y ∷ ns) → ((k : ℕ) → IsIn k (y ∷ ns) → ((m : ℕ) → IsIn m (y ∷ ns) → k ≤ m → p m ≡ b) → last_leaves p (y ∷ ns) ≡ b) → last_leaves p (y ∷ ns) ≡ b
    go (inl q) more = more y here (λ m j g. h m (there j) (let a : x + 1 ≤ y = t.1.0 in omega (arith, q)))
    go (inr j) more = more l j (λ m r. h m (there r))

pub none_last : (p : ℕ → Bool) (ns : List ℕ) → ((m : ℕ) → IsIn m ns → p m ≡ false) → last_leaves p ns ≡ false
none_last p [] h = refl
none_last p (x ∷ []) h = h x here
none_last p (x ∷ y ∷ ns) h = none_last p (y ∷ ns) (λ m i. h m (there i))

-- ---- the first message from a sequence on

pub record First (l : ℕ) (ms : List Message) : Type 0 where
  pub found : Message
  pub is : find (λ m. nat_le l m.seq) ms ≡ Some found
  pub member : IsIn found ms
  pub from : l ≤ found.seq
  pub least : (x : Message) → IsIn x ms → l ≤ x.seq → found.seq ≤ x.seq

pub first_from : (low high l : ℕ) (ms : List Message) → Between (λ m. m.seq) low high ms → (x : Message) → IsIn x ms → l ≤ x.seq → First l ms
first_from low high l [] t x i q = elim i [ ]
first_from low high l (y ∷ ms) t x i q = go (nat_le l y.seq) refl (first_from (y.seq + 1) high l ms t.1 x)
  where
    go : (b : Bool) → nat_le l y.seq ≡ b → (IsIn x ms → l ≤ x.seq → First l ms) → First l (y ∷ ms)
    go true e more = record {
      found = y;
      is = ap (λ b. cond b (Some y) (find (λ m. nat_le l m.seq) ms)) e;
      member = here;
      from = leb-true l y.seq e;
      least = λ z j g. least z (in_cons j);
    }
      where
        least : (z : Message) → (y ≡ z) ⊎ IsIn z ms → y.seq ≤ z.seq
        least z (inl r) = let a : y.seq ≡ z.seq = ap (λ (m : Message). m.seq) r in omega arith
        least z (inr j) = let a : y.seq + 1 ≤ z.seq = (in_bounds (λ (m : Message). m.seq) (y.seq + 1) high z ms t.1 j).0 in omega arith
    go false e more = behind (in_cons i)
      where
        under : y.seq < l
        under = leb-false l y.seq e

        behind : (y ≡ x) ⊎ IsIn x ms → First l (y ∷ ms)
        behind (inl r) = let a : y.seq ≡ x.seq = ap (λ (m : Message). m.seq) r in absurd (omega (arith, under))
        behind (inr j) =
            let w = more j q in
            record {
              found = w.found;
              is = ap (λ b. cond b (Some y) (find (λ m. nat_le l m.seq) ms)) e ∙ w.is;
              member = there w.member;
              from = w.from;
              least = λ z k g. least z (in_cons k) g w;
            }
          where
            least : (z : Message) → (y ≡ z) ⊎ IsIn z ms → l ≤ z.seq → (w : First l ms) → w.found.seq ≤ z.seq
            least z (inl r) g w = let a : y.seq ≡ z.seq = ap (λ (m : Message). m.seq) r in absurd (omega (arith, under))
            least z (inr k) g w = w.least z k g
