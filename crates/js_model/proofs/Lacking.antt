-- Lists in which nothing passes a test, and numbers in lists.
use Rattle.std.proofs.Common.{◌≡◌, ℕ, Bool, true, false, ◌&&◌, cond, List, [], ◌∷◌, ◌++◌, map, refl, sym, ◌∙◌, ◌⊎◌, inl, inr}
use Rattle.std.specs.Prelude.{fold, nat_lt, ◌==◌}
use Rattle.std.specs.List.{list_any}
use Rattle.std.proofs.lemmas.Bool.{or_parts, or_left, or_right, or_cases, or_from, true≢false, eqb-true, eq-eqb}
use Rattle.js_base.specs.Bytes.{has}
use Rattle.js_model.specs.Lists.{Apart, IsPart, Lacks}
use Rattle.js_model.specs.Advance.{placed}
use Rattle.js_model.proofs.Parts.{part_any}

pub lacks-cons : {X : Type 0} {t : X → Bool} {x : X} {xs : List X} → t x ≡ false → Lacks t xs → Lacks t (x ∷ xs)
lacks-cons {t = t} {x = x} {xs = xs} h k = record { none = or_from (t x) (list_any t xs) h k.none }

pub lacks-tail : {X : Type 0} {t : X → Bool} {x : X} {xs : List X} → Lacks t (x ∷ xs) → Lacks t xs
lacks-tail h = record { none = (or_parts _ _ h.none).1 }

pub lacks-head : {X : Type 0} {t : X → Bool} {x : X} {xs : List X} → Lacks t (x ∷ xs) → t x ≡ false
lacks-head h = (or_parts _ _ h.none).0

pub lacks-nil : {X : Type 0} {t : X → Bool} → Lacks t []
lacks-nil = record { none = refl }

pub lacks-part : {X : Type 0} {t : X → Bool} {ys xs : List X} → IsPart ys xs → Lacks t xs → Lacks t ys
lacks-part {t = t} {ys = ys} {xs = xs} p h = record { none = go (list_any t ys) refl }
  where
    go : (b : Bool) → list_any t ys ≡ b → list_any t ys ≡ false
    go true e = absurd (true≢false (sym (part_any t p e) ∙ h.none))
    go false e = e

pub lacks-map : {X Y : Type 0} {t : Y → Bool} (f : X → Y) {xs : List X} → Lacks (λ x. t (f x)) xs → Lacks t (map f xs)
lacks-map f {xs = []} h = record { none = refl }
lacks-map f {xs = x ∷ xs} h = lacks-cons (lacks-head h) (lacks-map f (lacks-tail h))

pub lacks-from_map : {X Y : Type 0} {t : Y → Bool} (f : X → Y) {xs : List X} → Lacks t (map f xs) → Lacks (λ x. t (f x)) xs
lacks-from_map f {xs = []} h = record { none = refl }
lacks-from_map f {xs = x ∷ xs} h = lacks-cons (lacks-head h) (lacks-from_map f (lacks-tail h))

pub lacks-push : {X : Type 0} {t : X → Bool} (xs : List X) (x : X) → t x ≡ false → Lacks t xs → Lacks t (xs ++ x ∷ [])
lacks-push [] x e h = lacks-cons e h
lacks-push (y ∷ ys) x e h = lacks-cons (lacks-head h) (lacks-push ys x e (lacks-tail h))

pub lacks-placed : {t : ℕ → Bool} {xs : List ℕ} (n : ℕ) → Lacks t xs → t n ≡ false → Lacks t (placed xs n)
lacks-placed {xs = []} n h k = lacks-cons k h
lacks-placed {t = t} {xs = x ∷ xs} n h k = go (nat_lt x n) (lacks-placed n (lacks-tail h) k)
  where
    go : (b : Bool) → Lacks t (placed xs n) → Lacks t (cond b (x ∷ placed xs n) (n ∷ x ∷ xs))
    go true r = lacks-cons (lacks-head h) r
    go false r = lacks-cons k h

pub lacks-all_placed : {t : ℕ → Bool} (xs ns : List ℕ) → Lacks t xs → Lacks t ns → Lacks t (fold placed xs ns)
lacks-all_placed xs [] h k = h
lacks-all_placed xs (n ∷ ns) h k = lacks-all_placed (placed xs n) ns (lacks-placed n h (lacks-head k)) (lacks-tail k)

-- what passes both tests passes one
pub lacks-both : {X : Type 0} (t u : X → Bool) (xs : List X) → Lacks t xs → list_any (λ x. t x && u x) xs ≡ false
lacks-both t u [] h = refl
lacks-both t u (x ∷ xs) h = rw (lacks-head h) (lacks-both t u xs (lacks-tail h))

-- ---- numbers in lists

pub has-part : (n : ℕ) {ys xs : List ℕ} → IsPart ys xs → has ys n ≡ true → has xs n ≡ true
has-part n p h = part_any (λ m. m == n) p h

pub has-not : (n : ℕ) {ys xs : List ℕ} → IsPart ys xs → has xs n ≡ false → has ys n ≡ false
has-not n p h = (lacks-part p (record { none = h })).none

-- a number in the list, or the one that was put there
pub has-placed : (xs : List ℕ) (n m : ℕ) → has (placed xs n) m ≡ true → (has xs m ≡ true) ⊎ (n ≡ m)
has-placed [] n m h = go (or_cases (n == m) false h)
  where
    go : ((n == m) ≡ true) ⊎ (false ≡ true) → (has [] m ≡ true) ⊎ (n ≡ m)
    go (inl e) = inr (eqb-true n m e)
    go (inr e) = absurd (true≢false (sym e))
has-placed (x ∷ xs) n m h = go (nat_lt x n) (has-placed xs n m) h
  where
    later : (has xs m ≡ true) ⊎ (n ≡ m) → (has (x ∷ xs) m ≡ true) ⊎ (n ≡ m)
    later (inl e) = inl (or_right (x == m) (has xs m) e)
    later (inr e) = inr e

    go : (b : Bool) → (has (placed xs n) m ≡ true → (has xs m ≡ true) ⊎ (n ≡ m)) → has (cond b (x ∷ placed xs n) (n ∷ x ∷ xs)) m ≡ true → (has (x ∷ xs) m ≡ true) ⊎ (n ≡ m)
    go true f k = either (or_cases (x == m) (has (placed xs n) m) k)
      where
        either : ((x == m) ≡ true) ⊎ (has (placed xs n) m ≡ true) → (has (x ∷ xs) m ≡ true) ⊎ (n ≡ m)
        either (inl e) = inl (or_left (x == m) (has xs m) e)
        either (inr e) = later (f e)
    go false f k = either (or_cases (n == m) (has (x ∷ xs) m) k)
      where
        either : ((n == m) ≡ true) ⊎ (has (x ∷ xs) m ≡ true) → (has (x ∷ xs) m ≡ true) ⊎ (n ≡ m)
        either (inl e) = inr (eqb-true n m e)
        either (inr e) = inl e

pub has-all_placed : (xs ns : List ℕ) (m : ℕ) → has (fold placed xs ns) m ≡ true → (has xs m ≡ true) ⊎ (has ns m ≡ true)
has-all_placed xs [] m h = inl h
has-all_placed xs (n ∷ ns) m h = go (has-all_placed (placed xs n) ns m h)
  where
    first : (has xs m ≡ true) ⊎ (n ≡ m) → (has xs m ≡ true) ⊎ (has (n ∷ ns) m ≡ true)
    first (inl e) = inl e
    first (inr e) = inr (or_left (n == m) (has ns m) (eq-eqb n m e))

    go : (has (placed xs n) m ≡ true) ⊎ (has ns m ≡ true) → (has xs m ≡ true) ⊎ (has (n ∷ ns) m ≡ true)
    go (inl e) = first (has-placed xs n m e)
    go (inr e) = inr (or_right (n == m) (has ns m) e)

-- ---- lists apart

pub apart-parts : {xs ys us vs : List ℕ} → IsPart us xs → IsPart vs ys → Apart xs ys → Apart us vs
apart-parts p q h = record { apart = λ n e. has-not n q (h.apart n (has-part n p e)) }

pub apart-swapped : {xs ys : List ℕ} → Apart xs ys → Apart ys xs
apart-swapped {xs = xs} {ys = ys} h = record { apart = λ n e. go n (has xs n) refl e }
  where
    go : (n : ℕ) (b : Bool) → has xs n ≡ b → has ys n ≡ true → has xs n ≡ false
    go n true e k = absurd (true≢false (sym k ∙ h.apart n e))
    go n false e k = e
