-- The rest of a list, from a place on.
use Rattle.std.proofs.Common.{◌≡◌, ℕ, ◌+◌, ◌<◌, List, ◌∷◌, length, drop, get_or, sym, ap, ◌∙◌}
use Rattle.std.proofs.lemmas.List.{at_drop_more}

-- its first element, and what is left behind that
pub first_of : {X Y : Type 0} (F : List X → Y) (xs : List X) (k j : ℕ) (x : X) → k < length xs → x ≡ get_or xs k x → j ≡ k + 1 → F (drop k xs) ≡ F (x ∷ drop j xs)
first_of F xs k j x within is next = at_drop_more F xs k x within ∙ ap (λ y. F (y ∷ drop (k + 1) xs)) (sym is) ∙ ap (λ (n : ℕ). F (x ∷ drop n xs)) (sym next)
