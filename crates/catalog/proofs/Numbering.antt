-- Numbers that are 32 apart, and what the index keeps of the subjects under them.
use Rattle.std.proofs.Common.{◌≡◌, ℕ, zero, suc, ◌+◌, ◌*◌, ◌<◌, ◌≤◌, ◌==◌, ◌||◌, not, Bool, true, false, cond, List, [], ◌∷◌, ◌++◌, length, take, get_or, refl, sym, ap, ◌∙◌, arith, eq-eqb, length-take}
use Rattle.std.specs.List.{AllByRecursion}
use Rattle.std.proofs.lemmas.Bool.{ne_eqb}
use Rattle.std.proofs.lemmas.List.{take_more}
use Rattle.std.proofs.lemmas.List.Elements.{filter-append}
use Rattle.js_base.specs.Bytes.{Bytes, has}
use Rattle.route_index.specs.declared.sub.Sub.{Sub}
use Rattle.route_index.specs.Subs.{IsAbove, without}
use Rattle.route_index.proofs.Numbers.{eq_flip}
use Rattle.catalog.specs.Numbers.{numbers, numbered, without_numbers}

or_right : (a b : Bool) → b ≡ true → (a || b) ≡ true
or_right true b h = refl
or_right false b h = h

-- ---- which numbers there are

has_below : (f k i : ℕ) → i < f → has (numbers f k) i ≡ false
has_below f zero i h = refl
has_below f (suc k) i h = ap (λ b. b || has (numbers (f + 32) k) i) (ne_eqb f i (λ e. omega (arith, e, h))) ∙ has_below (f + 32) k i (omega (arith, h))

has_above : (f k i : ℕ) → f + 32 * k ≤ i → has (numbers f k) i ≡ false
has_above f zero i h = refl
has_above f (suc k) i h = ap (λ b. b || has (numbers (f + 32) k) i) (ne_eqb f i (λ e. omega (arith, e, h))) ∙ has_above (f + 32) k i (omega (arith, h))

-- no subject is under one of the numbers
abbrev pub AreOutside : List ℕ → List Sub → Type 0
AreOutside ids subs = AllByRecursion (λ sub. has ids sub.id ≡ false) subs

-- each is
abbrev pub AreInside : List ℕ → List Sub → Type 0
AreInside ids subs = AllByRecursion (λ sub. has ids sub.id ≡ true) subs

pub above_outside : (f k : ℕ) (subs : List Sub) → IsAbove f subs → AreOutside (numbers f k) subs
above_outside f k [] h = tt
above_outside f k (s ∷ ss) h = (has_below f k s.id h.0, above_outside f k ss h.1)

pub after_outside : (f k g : ℕ) (xs : List Bytes) → f + 32 * k ≤ g → AreOutside (numbers f k) (numbered g xs)
after_outside f k g [] h = tt
after_outside f k g (x ∷ xs) h = (has_above f k g h, after_outside f k (g + 32) xs (omega (arith, h)))

pub before_outside : (f k g : ℕ) (xs : List Bytes) → g + 32 * length xs ≤ f → AreOutside (numbers f k) (numbered g xs)
before_outside f k g [] h = tt
before_outside f k g (x ∷ xs) h = (has_below f k g (omega (arith, h)), before_outside f k (g + 32) xs (omega (arith, h)))

inside_from : (f n : ℕ) (xs : List Bytes) (ids : List ℕ) → length xs ≤ n → ((i : ℕ) → has (numbers f n) i ≡ true → has ids i ≡ true) → AreInside ids (numbered f xs)
inside_from f n [] ids h k = tt
inside_from f zero (x ∷ xs) ids h k = absurd (omega (arith, h))
inside_from f (suc n) (x ∷ xs) ids h k = (
  k f (ap (λ b. b || has (numbers (f + 32) n) f) (eq-eqb f f refl)),
  inside_from (f + 32) n xs ids (omega (arith, h)) (λ i there. k i (or_right (f == i) _ there)),
)

pub inside : (f n : ℕ) (xs : List Bytes) → length xs ≤ n → AreInside (numbers f n) (numbered f xs)
inside f n xs h = inside_from f n xs (numbers f n) h (λ i there. there)

-- ---- what is left

pub outside_stays : (ids : List ℕ) (subs : List Sub) → AreOutside ids subs → without_numbers ids subs ≡ subs
outside_stays ids [] h = refl
outside_stays ids (s ∷ ss) h = ap (λ b. cond (not b) (s ∷ without_numbers ids ss) (without_numbers ids ss)) h.0 ∙ ap (λ more. s ∷ more) (outside_stays ids ss h.1)

pub inside_goes : (ids : List ℕ) (subs : List Sub) → AreInside ids subs → without_numbers ids subs ≡ []
inside_goes ids [] h = refl
inside_goes ids (s ∷ ss) h = ap (λ b. cond (not b) (s ∷ without_numbers ids ss) (without_numbers ids ss)) h.0 ∙ inside_goes ids ss h.1

pub without_append : (ids : List ℕ) (xs ys : List Sub) → without_numbers ids (xs ++ ys) ≡ without_numbers ids xs ++ without_numbers ids ys
without_append ids xs ys = filter-append (λ sub. not (has ids sub.id)) xs ys

-- subjects that were put at the end are taken back
pub taken_back : (f n : ℕ) (old : List Sub) (xs : List Bytes) → length xs ≤ n → IsAbove f old → without_numbers (numbers f n) (old ++ numbered f xs) ≡ old
taken_back f n old xs h above =
    without_append (numbers f n) old (numbered f xs) ∙ ap (λ kept. kept ++ without_numbers (numbers f n) (numbered f xs)) (outside_stays (numbers f n) old (above_outside f n old above))
    ∙ ap (λ left. old ++ left) (inside_goes (numbers f n) (numbered f xs) (inside f n xs h)) ∙ append_none old
  where
    append_none : (xs : List Sub) → xs ++ [] ≡ xs
    append_none [] = refl
    append_none (x ∷ xs) = ap (λ more. x ∷ more) (append_none xs)

-- one number after the other
without_step : (id k : ℕ) (subs : List Sub) → without_numbers (numbers (id + 32) k) (without id subs) ≡ without_numbers (numbers id (suc k)) subs
without_step id k [] = refl
without_step id k (s ∷ ss) = go (s.id == id) refl (without_step id k ss)
  where
    go : (b : Bool) → (s.id == id) ≡ b → without_numbers (numbers (id + 32) k) (without id ss) ≡ without_numbers (numbers id (suc k)) ss
        → without_numbers (numbers (id + 32) k) (cond (not (s.id == id)) (s ∷ without id ss) (without id ss))
        ≡ cond (not ((id == s.id) || has (numbers (id + 32) k) s.id)) (s ∷ without_numbers (numbers id (suc k)) ss) (without_numbers (numbers id (suc k)) ss)
    go true e h =
        ap (λ b. without_numbers (numbers (id + 32) k) (cond (not b) (s ∷ without id ss) (without id ss))) e ∙ h
        ∙ sym (ap (λ b. cond (not (b || has (numbers (id + 32) k) s.id)) (s ∷ without_numbers (numbers id (suc k)) ss) (without_numbers (numbers id (suc k)) ss)) (eq_flip id s.id ∙ e))
    go false e h =
        ap (λ b. without_numbers (numbers (id + 32) k) (cond (not b) (s ∷ without id ss) (without id ss))) e
        ∙ ap (λ more. cond (not (has (numbers (id + 32) k) s.id)) (s ∷ more) more) h
        ∙ sym (ap (λ b. cond (not (b || has (numbers (id + 32) k) s.id)) (s ∷ without_numbers (numbers id (suc k)) ss) (without_numbers (numbers id (suc k)) ss)) (eq_flip id s.id ∙ e))

pub drop_more : (id k m : ℕ) (subs rest : List Sub) → m ≡ suc k → without_numbers (numbers id m) subs ≡ rest → without_numbers (numbers (id + 32) k) (without id subs) ≡ rest
drop_more id k m subs rest e h = without_step id k subs ∙ ap (λ n. without_numbers (numbers id n) subs) (sym e) ∙ h

pub drop_done : (id k : ℕ) (subs rest : List Sub) → k ≡ 0 → without_numbers (numbers id k) subs ≡ rest → subs ≡ rest
drop_done id k subs rest e h = sym (none subs) ∙ ap (λ n. without_numbers (numbers id n) subs) (sym e) ∙ h
  where
    none : (subs : List Sub) → without_numbers [] subs ≡ subs
    none [] = refl
    none (s ∷ ss) = ap (λ more. s ∷ more) (none ss)

-- ---- what is put

pub numbered_more : (f : ℕ) (xs : List Bytes) (x : Bytes) → numbered f (xs ++ x ∷ []) ≡ numbered f xs ++ numbered (f + 32 * length xs) (x ∷ [])
numbered_more f [] x = let at : f ≡ f + 32 * 0 = omega arith in ap (λ i. numbered i (x ∷ [])) at
numbered_more f (y ∷ xs) x =
    let at : f + 32 + 32 * length xs ≡ f + 32 * length (y ∷ xs) = omega arith in
    ap (λ more. record { id = f; pattern = y } ∷ more) (numbered_more (f + 32) xs x ∙ ap (λ i. numbered (f + 32) xs ++ numbered i (x ∷ [])) at)

append_assoc : (xs ys zs : List Sub) → (xs ++ ys) ++ zs ≡ xs ++ (ys ++ zs)
append_assoc [] ys zs = refl
append_assoc (x ∷ xs) ys zs = ap (λ more. x ∷ more) (append_assoc xs ys zs)

pub put_more : (f id i : ℕ) (old mid : List Sub) (xs : List Bytes) (x : Bytes) → i < length xs → id ≡ f + 32 * i → x ≡ get_or xs i x → mid ≡ old ++ numbered f (take i xs)
    → mid ++ numbered id (x ∷ []) ≡ old ++ numbered f (take (i + 1) xs)
put_more f id i old mid xs x within at is h =
    let len : id ≡ f + 32 * length (take i xs) = omega (arith, length-take i xs) in
    ap (λ ss. ss ++ numbered id (x ∷ [])) h ∙ append_assoc old (numbered f (take i xs)) (numbered id (x ∷ []))
    ∙ ap (λ n. old ++ (numbered f (take i xs) ++ numbered n (x ∷ []))) len
    ∙ ap (λ ss. old ++ ss) (sym (numbered_more f (take i xs) x) ∙ ap (numbered f) (ap (λ y. take i xs ++ y ∷ []) is ∙ sym (take_more xs i x within)))

pub above_more : (id more : ℕ) (subs : List Sub) → id ≤ more → IsAbove id subs → IsAbove more subs
above_more id more [] h above = tt
above_more id more (s ∷ ss) h above = (omega (arith, above.0, h), above_more id more ss h above.1)

above_append : (id : ℕ) (xs ys : List Sub) → IsAbove id xs → IsAbove id ys → IsAbove id (xs ++ ys)
above_append id [] ys h k = k
above_append id (x ∷ xs) ys h k = (h.0, above_append id xs ys h.1 k)

numbered_below : (id f : ℕ) (xs : List Bytes) → f + 32 * length xs < id + 32 → IsAbove id (numbered f xs)
numbered_below id f [] h = tt
numbered_below id f (x ∷ xs) h = (omega (arith, h), numbered_below id (f + 32) xs (omega (arith, h)))

-- all numbers stay below a later one
pub above_put : (id more f : ℕ) (subs : List Sub) (xs : List Bytes) → id ≤ more → f + 32 * length xs < more + 32 → IsAbove id subs → IsAbove more (subs ++ numbered f xs)
above_put id more f subs xs h k above = above_append more subs (numbered f xs) (above_more id more subs h above) (numbered_below more f xs k)
