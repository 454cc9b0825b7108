-- Laws of lists that are known, or not.
use Rattle.std.proofs.Common.{◌≡◌, List, [], ◌++◌, Option, None, Some, option_map, ap, refl, sym, append_assoc, ◌∙◌}
use Rattle.std.proofs.lemmas.List.{append-nil}
use Rattle.link_edge.specs.Told.{grown, emptied, Loses}

-- nothing more
pub grown-nil : {X : Type 0} (o : Option (List X)) → grown o [] ≡ o
grown-nil None = refl
grown-nil (Some xs) = ap Some (append-nil xs)

-- more, and then more
pub grown-grown : {X : Type 0} (o : Option (List X)) (xs ys : List X) →
    grown (grown o xs) ys ≡ grown o (xs ++ ys)
grown-grown None xs ys = refl
grown-grown (Some zs) xs ys = ap Some (append_assoc zs xs ys)

-- more, on what was empty
pub grown-emptied : {X : Type 0} (o : Option (List X)) (xs : List X) →
    grown (emptied o) xs ≡ option_map (λ _. xs) o
grown-emptied None xs = refl
grown-emptied (Some zs) xs = refl

-- what has grown is known if it was known
pub emptied-grown : {X : Type 0} (o : Option (List X)) (xs : List X) → emptied (grown o xs) ≡ emptied o
emptied-grown None xs = refl
emptied-grown (Some zs) xs = refl

-- it grew, and then it grew
pub grown_on : {X : Type 0} (a b c : Option (List X)) (xs ys : List X) → b ≡ grown a xs → c ≡ grown b ys →
    c ≡ grown a (xs ++ ys)
grown_on a b c xs ys e f = f ∙ ap (λ o. grown o ys) e ∙ grown-grown a xs ys

-- a prefix before a prefix
fronts : {X : Type 0} (o : Option (List X)) (xs ys : List X) →
    option_map (λ rest. xs ++ rest) (option_map (λ rest. ys ++ rest) o) ≡ option_map (λ rest. (xs ++ ys) ++ rest) o
fronts None xs ys = refl
fronts (Some zs) xs ys = ap Some (sym (append_assoc xs ys zs))

-- it lost a prefix, and then another
pub loses_on : {X : Type 0} (a b c : Option (List X)) (xs ys : List X) → Loses a b xs → Loses b c ys →
    Loses a c (xs ++ ys)
loses_on a b c xs ys e f = e ∙ ap (option_map (λ rest. xs ++ rest)) f ∙ fronts c xs ys
