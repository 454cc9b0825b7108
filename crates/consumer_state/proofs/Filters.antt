-- What filters leave of lists.
use Rattle.std.proofs.Common.{◌≡◌, suc, ◌<◌, ◌≤◌, Bool, true, false, ◌||◌, not, cond, List, [], ◌∷◌, length, map, refl, sym, ap, ◌∙◌, arith}
use Rattle.std.specs.Prelude.{filter, nat_lt, All}
use Rattle.std.specs.List.{list_any}
use Rattle.std.proofs.lemmas.Bool.{le-ltb, lt-ltb, true≢false}
use Rattle.std.proofs.lemmas.List.Elements.{All-cons, All-head, All-tail, All-nil}
use Rattle.js_model.proofs.Parts.{filter_part, part-length}

pub keeps_all : {X : Type 0} (xs : List X) → filter (λ x. true) xs ≡ xs
keeps_all [] = refl
keeps_all {X} (x ∷ xs) = ap (λ (l : List X). x ∷ l) (keeps_all xs)

-- what the second filter takes out, the first one takes out too
pub filter_again : {X : Type 0} (t u : X → Bool) → ((x : X) → u x ≡ true → t x ≡ true) → (xs : List X) → filter (λ x. not (t x)) (filter (λ x. not (u x)) xs) ≡ filter (λ x. not (t x)) xs
filter_again t u f [] = refl
filter_again {X} t u f (x ∷ xs) = go (u x) refl (filter_again t u f xs)
  where
    go : (b : Bool) → u x ≡ b → filter (λ x. not (t x)) (filter (λ x. not (u x)) xs) ≡ filter (λ x. not (t x)) xs
        → filter (λ x. not (t x)) (cond (not b) (x ∷ filter (λ x. not (u x)) xs) (filter (λ x. not (u x)) xs)) ≡ cond (not (t x)) (x ∷ filter (λ x. not (t x)) xs) (filter (λ x. not (t x)) xs)
    go true e h = h ∙ sym (ap (λ b. cond (not b) (x ∷ filter (λ x. not (t x)) xs) (filter (λ x. not (t x)) xs)) (f x e))
    go false e h = ap (λ (l : List X). cond (not (t x)) (x ∷ l) l) h

pub no_more : {X : Type 0} (t : X → Bool) (xs : List X) → length (filter t xs) ≤ length xs
no_more t xs = part-length (filter_part t xs)

-- some element is taken out
pub fewer : {X : Type 0} (t : X → Bool) (xs : List X) → list_any t xs ≡ true → length (filter (λ x. not (t x)) xs) < length xs
fewer t [] e = absurd (true≢false (sym e))
fewer t (x ∷ xs) e = go (t x) (fewer t xs) (no_more (λ x. not (t x)) xs) e
  where
    go : (b : Bool) → (list_any t xs ≡ true → length (filter (λ x. not (t x)) xs) < length xs) → length (filter (λ x. not (t x)) xs) ≤ length xs → (b || list_any t xs) ≡ true
        → length (cond (not b) (x ∷ filter (λ x. not (t x)) xs) (filter (λ x. not (t x)) xs)) < suc (length xs)
    go true f l k = omega arith
    go false f l k = let q : length (filter (λ x. not (t x)) xs) < length xs = f k in omega arith

pub filter_none : {X : Type 0} (t : X → Bool) (xs : List X) → list_any t xs ≡ false → filter (λ x. not (t x)) xs ≡ xs
filter_none t [] e = refl
filter_none {X} t (x ∷ xs) e = go (t x) (filter_none t xs) e
  where
    go : (b : Bool) → (list_any t xs ≡ false → filter (λ x. not (t x)) xs ≡ xs) → (b || list_any t xs) ≡ false → cond (not b) (x ∷ filter (λ x. not (t x)) xs) (filter (λ x. not (t x)) xs) ≡ x ∷ xs
    go true f k = absurd (true≢false k)
    go false f k = ap (λ (l : List X). x ∷ l) (f k)

-- whether some element is taken out is told by the lengths
pub fewer_tells : {X : Type 0} (t : X → Bool) (xs : List X) → nat_lt (length (filter (λ x. not (t x)) xs)) (length xs) ≡ list_any t xs
fewer_tells t xs = go (list_any t xs) refl
  where
    go : (b : Bool) → list_any t xs ≡ b → nat_lt (length (filter (λ x. not (t x)) xs)) (length xs) ≡ b
    go true e = lt-ltb (length (filter (λ x. not (t x)) xs)) (length xs) (fewer t xs e)
    go false e = let k : length (filter (λ x. not (t x)) xs) ≡ length xs = ap length (filter_none t xs e) in le-ltb (length (filter (λ x. not (t x)) xs)) (length xs) (omega arith)

pub any_map : {X Y : Type 0} (t : Y → Bool) (f : X → Y) (xs : List X) → list_any t (map f xs) ≡ list_any (λ x. t (f x)) xs
any_map t f [] = refl
any_map t f (x ∷ xs) = ap (λ b. t (f x) || b) (any_map t f xs)

pub all_map : {X : Type 0} (P : X → Type 0) (f : X → X) → ((x : X) → P x → P (f x)) → (xs : List X) → All P xs → All P (map f xs)
all_map P f k [] h = All-nil P
all_map P f k (x ∷ xs) h = All-cons P (f x) (map f xs) (k x (All-head P x xs h)) (all_map P f k xs (All-tail P x xs h))
