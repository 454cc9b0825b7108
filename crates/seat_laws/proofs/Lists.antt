-- Tests and filters over lists of numbers that were read off other lists.
use Rattle.std.proofs.Common.{◌≡◌, Bool, true, false, ◌||◌, cond, List, [], ◌∷◌, map, refl, ap}
use Rattle.std.specs.Prelude.{filter}
use Rattle.std.specs.List.{list_any}

pub any-map : {X Y : Type 0} (t : Y → Bool) (f : X → Y) (xs : List X) → list_any t (map f xs) ≡ list_any (λ x. t (f x)) xs
any-map t f [] = refl
any-map t f (x ∷ xs) = ap (λ b. t (f x) || b) (any-map t f xs)

pub map-filter : {X Y : Type 0} (t : Y → Bool) (f : X → Y) (xs : List X) → map f (filter (λ x. t (f x)) xs) ≡ filter t (map f xs)
map-filter t f [] = refl
map-filter t f (x ∷ xs) = go (t (f x)) (map-filter t f xs)
  where
    go : (b : Bool) → map f (filter (λ y. t (f y)) xs) ≡ filter t (map f xs)
        → map f (cond b (x ∷ filter (λ y. t (f y)) xs) (filter (λ y. t (f y)) xs)) ≡ cond b (f x ∷ filter t (map f xs)) (filter t (map f xs))
    go true h = ap (λ ys. f x ∷ ys) h
    go false h = h
