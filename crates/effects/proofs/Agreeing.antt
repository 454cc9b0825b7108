-- Filters and maps of a list by what agrees on its elements.
use Rattle.std.proofs.Common.{◌≡◌, Bool, true, false, ◌&&◌, cond, List, [], ◌∷◌, ◌++◌, map, refl, ap, ◌∙◌}
use Rattle.std.specs.Prelude.{filter}
use Rattle.js_model.proofs.Members.{IsIn, here, there}

pub filter_agree : {X : Type 0} (t u : X → Bool) (xs : List X) → ((x : X) → IsIn x xs → t x ≡ u x) → filter t xs ≡ filter u xs
filter_agree t u [] h = refl
filter_agree t u (x ∷ xs) h =
    ap (λ (b : Bool). cond b (x ∷ filter t xs) (filter t xs)) (h x here) ∙ ap (λ l. cond (u x) (x ∷ l) l) (filter_agree t u xs (λ y i. h y (there i)))

pub filter_all : {X : Type 0} (t : X → Bool) (xs : List X) → ((x : X) → IsIn x xs → t x ≡ true) → filter t xs ≡ xs
filter_all t [] h = refl
filter_all t (x ∷ xs) h = ap (λ (b : Bool). cond b (x ∷ filter t xs) (filter t xs)) (h x here) ∙ ap (λ l. x ∷ l) (filter_all t xs (λ y i. h y (there i)))

pub filter_twice : {X : Type 0} (t u : X → Bool) (xs : List X) → filter u (filter t xs) ≡ filter (λ x. t x && u x) xs
filter_twice t u [] = refl
filter_twice {X} t u (x ∷ xs) = go (t x) (filter_twice t u xs)
  where
    both : List X
    both = filter (λ x. t x && u x) xs

    own : (b : Bool) → filter u (filter t xs) ≡ both → cond b (x ∷ filter u (filter t xs)) (filter u (filter t xs)) ≡ cond b (x ∷ both) both
    own true k = ap (λ l. x ∷ l) k
    own false k = k

    go : (a : Bool) → filter u (filter t xs) ≡ both → filter u (cond a (x ∷ filter t xs) (filter t xs)) ≡ cond (a && u x) (x ∷ both) both
    go true k = own (u x) k
    go false k = k

pub map_agree : {X Y : Type 0} (f g : X → Y) (xs : List X) → ((x : X) → IsIn x xs → f x ≡ g x) → map f xs ≡ map g xs
map_agree f g [] h = refl
map_agree f g (x ∷ xs) h = ap (λ y. y ∷ map f xs) (h x here) ∙ ap (λ l. g x ∷ l) (map_agree f g xs (λ y i. h y (there i)))

pub map_twice : {X Y Z : Type 0} (f : X → Y) (g : Y → Z) (xs : List X) → map g (map f xs) ≡ map (λ x. g (f x)) xs
map_twice f g [] = refl
map_twice f g (x ∷ xs) = ap (λ l. g (f x) ∷ l) (map_twice f g xs)

pub in_mapped : {X Y : Type 0} (f : X → Y) {x : X} {xs : List X} → IsIn x xs → IsIn (f x) (map f xs)
in_mapped f here = here
in_mapped f (there i) = there (in_mapped f i)

pub append_assoc : {X : Type 0} (xs ys zs : List X) → (xs ++ ys) ++ zs ≡ xs ++ (ys ++ zs)
append_assoc [] ys zs = refl
append_assoc (x ∷ xs) ys zs = ap (λ l. x ∷ l) (append_assoc xs ys zs)
