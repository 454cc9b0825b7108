-- Lists of entries and of numbers.
use Rattle.std.proofs.Common.{◌≡◌, ◌⊎◌, ℕ, zero, suc, ◌<◌, ◌≤◌, List, [], ◌∷◌, ◌++◌, Bool, true, false, cond, ◌||◌, eqb, true≢false, refl, sym, ap, ◌∙◌, subst, inl, inr, ⊎_elim, arith, eq-eqb, eqb-true}
use Rattle.std.specs.Prelude.{max, ◌==◌}
use mathlib.Core.Logic.{dite}
use native.Mathlib.Decide.{ℕ_discrete}
use Rattle.std.proofs.lemmas.List.Folds.{list_any-append}
use Rattle.js_base.specs.Bytes.{has}
use Rattle.histories.specs.Entries.{Entry, seat_of, AreBy}
use Rattle.histories.specs.Fronts.{own, AreForeign}
use Rattle.turn_lock.specs.Views.{first_of, below, longer}
use Rattle.turn_lock.specs.Ruled.{AreMade}

-- ---- tests

pub not_both : (b : Bool) → b ≡ true → b ≡ false → ⊥
not_both b t f = true≢false (sym t ∙ f)

pub if_not : (b : Bool) → (b ≡ true → ⊥) → b ≡ false
if_not true f = absurd (f refl)
if_not false f = refl

pub or-true : (a b : Bool) → (a || b) ≡ true → (a ≡ true) ⊎ (b ≡ true)
or-true true b e = inl refl
or-true false b e = inr e

pub or-false : (a b : Bool) → a ≡ false → b ≡ false → (a || b) ≡ false
or-false a b f g = ap (λ (x : Bool). x || b) f ∙ g

pub or-both : (a b : Bool) → (a || b) ≡ false → (a ≡ false) × (b ≡ false)
or-both true b e = absurd (true≢false e)
or-both false b e = (refl, e)

pub or-left : (a b : Bool) → a ≡ true → (a || b) ≡ true
or-left a b e = ap (λ (x : Bool). x || b) e

or-right : (a b : Bool) → b ≡ true → (a || b) ≡ true
or-right true b e = refl
or-right false b e = e

pub max-le : (a b n : ℕ) → a ≤ n → b ≤ n → max a b ≤ n
max-le a b n f g = omega arith

-- ---- entries of seats that were made

pub made-append : (k : ℕ) (a b : List Entry) → AreMade k a → AreMade k b → AreMade k (a ++ b)
made-append k [] b f g = g
made-append k (e ∷ es) b f g = (f.0, made-append k es b f.1 g)

pub made-cut : (k : ℕ) (a b : List Entry) → AreMade k (a ++ b) → AreMade k b
made-cut k [] b f = f
made-cut k (e ∷ es) b f = made-cut k es b f.1

pub made-front : (k : ℕ) (a b : List Entry) → AreMade k (a ++ b) → AreMade k a
made-front k [] b f = tt
made-front k (e ∷ es) b f = (f.0, made-front k es b f.1)

pub made-by : (k n : ℕ) (es : List Entry) → AreBy n es → n < k → AreMade k es
made-by k n [] b h = tt
made-by k n (e ∷ es) b h = (subst (λ (m : ℕ). m < k) (sym b.0) h, made-by k n es b.1 h)

-- ---- a seat's own entries

-- where each number is among these, all entries are own
pub own-all : (ns : List ℕ) (k : ℕ) (l : List Entry) → ((n : ℕ) → n < k → has ns n ≡ true) → AreMade k l → own ns l ≡ l
own-all ns k [] all m = refl
own-all ns k (e ∷ es) all m = ap (λ (b : Bool). cond b (e ∷ own ns es) (own ns es)) (all (seat_of e) m.0) ∙ ap (λ (xs : List Entry). e ∷ xs) (own-all ns k es all m.1)

pub later_none : (ns : List ℕ) (k : ℕ) (later : List Entry) → ((n : ℕ) → n < k → has ns n ≡ true) → AreForeign ns later → AreMade k later → later ≡ []
later_none ns k [] all f m = refl
later_none ns k (e ∷ es) all f m = absurd (not_both (has ns (seat_of e)) (all (seat_of e) m.0) f.0)

-- ---- numbers

pub has-append : (ns ms : List ℕ) (n : ℕ) → has (ns ++ ms) n ≡ (has ns n || has ms n)
has-append ns ms n = list_any-append (λ m. m == n) ns ms

pub foreign-both : (ns ms : List ℕ) (a : List Entry) → AreForeign ns a → AreForeign ms a → AreForeign (ns ++ ms) a
foreign-both ns ms [] f g = tt
foreign-both ns ms (e ∷ es) f g = (has-append ns ms (seat_of e) ∙ or-false (has ns (seat_of e)) (has ms (seat_of e)) f.0 g.0, foreign-both ns ms es f.1 g.1)

pub below-has : (n k : ℕ) → k < n → has (below n) k ≡ true
below-has zero k h = absurd (omega arith)
below-has (suc n) k h = ⊎_elim (λ (e : n ≡ k). or-left (eqb n k) (has (below n) k) (eq-eqb n k e)) (λ (l : k < n). or-right (eqb n k) (has (below n) k) (below-has n k l)) (split_at k n h)
  where
    split_at : (k n : ℕ) → k < suc n → (n ≡ k) ⊎ (k < n)
    split_at k n h = dite (ℕ_discrete n k) (λ e. inl e) (λ ne. inr (omega arith))

pub foreign-parts : (n : ℕ) (ns : List ℕ) (l : List Entry) → AreForeign (n ∷ ns) l → AreForeign (n ∷ []) l × AreForeign ns l
foreign-parts n ns [] f = (tt, tt)
foreign-parts n ns (e ∷ es) f = let p = or-both (eqb n (seat_of e)) (has ns (seat_of e)) f.0 in let q = foreign-parts n ns es f.1 in
    ((or-false (eqb n (seat_of e)) false p.0 refl, q.0), (p.1, q.1))

pub below-less : (n k : ℕ) → has (below n) k ≡ true → k < n
below-less zero k h = absurd (true≢false (sym h))
below-less (suc n) k h = ⊎_elim (λ e. let same : n ≡ k = eqb-true n k e in omega arith) (λ l. let less = below-less n k l in omega arith) (or-true (eqb n k) (has (below n) k) h)

pub only_one : (n k : ℕ) → has (n ∷ []) k ≡ true → k ≡ n
only_one n k h = ⊎_elim (λ e. sym (eqb-true n k e)) (λ f. absurd (true≢false (sym f))) (or-true (eqb n k) false h)

pub one_numbered : (n : ℕ) → has (n ∷ []) n ≡ true
one_numbered n = or-left (eqb n n) false (eq-eqb n n refl)

pub numbered-append : (ns ms : List ℕ) → has ns (first_of ns) ≡ true → has (ns ++ ms) (first_of (ns ++ ms)) ≡ true
numbered-append [] ms h = absurd (true≢false (sym h))
numbered-append (n ∷ ns) ms h = or-left (eqb n n) (has (ns ++ ms) n) (eq-eqb n n refl)

-- ---- two beginnings of one list

-- the longer is one of them, and the other begins it
pub record Longer (xs ys a b : List Entry) : Type 0 where
  pub more : List Entry
  pub picked : longer xs ys ≡ xs
  pub begins : xs ≡ ys ++ more
  pub beyond : b ≡ more ++ a

abbrev pub Shorter : List Entry → List Entry → List Entry → List Entry → Type 0
Shorter xs ys a b = (longer xs ys ≡ ys) × ((m : List Entry) × (ys ≡ xs ++ m) × (a ≡ m ++ b))

one_more : (x : Entry) (xs ys a b : List Entry) (y : Entry) → y ≡ x → Longer xs ys a b → Longer (x ∷ xs) (y ∷ ys) a b
one_more x xs ys a b y same l = record { more = l.more; picked = ap (λ (zs : List Entry). x ∷ zs) l.picked; begins = λ i. sym same i ∷ l.begins i; beyond = l.beyond }

other_more : (x : Entry) (xs ys a b : List Entry) (y : Entry) → x ≡ y → Shorter xs ys a b → Shorter (x ∷ xs) (y ∷ ys) a b
other_more x xs ys a b y same l = ((λ i. same i ∷ l.0 i), (l.1.0, (λ i. sym same i ∷ l.1.1 i), l.1.2))

head_of : Entry → List Entry → Entry
head_of d [] = d
head_of d (x ∷ xs) = x

tail_of : List Entry → List Entry
tail_of [] = []
tail_of (x ∷ xs) = xs

pub longer_of : (xs ys a b : List Entry) → xs ++ a ≡ ys ++ b → Longer xs ys a b ⊎ Shorter xs ys a b
unfolding head_of tail_of
longer_of [] ys a b e = inr (refl, (ys, refl, e))
longer_of (x ∷ xs) [] a b e = inl record { more = x ∷ xs; picked = refl; begins = refl; beyond = sym e }
longer_of (x ∷ xs) (y ∷ ys) a b e =
    let same : x ≡ y = ap (head_of x) e in
    ⊎_elim (λ l. inl (one_more x xs ys a b y (sym same) l)) (λ r. inr (other_more x xs ys a b y same r)) (longer_of xs ys a b (ap tail_of e))
