-- A step of a loop that makes something of each element that passes.
use Rattle.std.proofs.Common.{◌≡◌, ℕ, ◌+◌, ◌<◌, Bool, true, false, cond, List, [], ◌∷◌, ◌++◌, length, take, get_or, map, sym, ap, ◌∙◌, append-nil}
use Rattle.std.specs.Prelude.{filter}
use Rattle.std.proofs.lemmas.List.{map-append, append_assoc}
use Rattle.std.proofs.lemmas.List.Elements.{filter_more}

module _ {X Y : Type 0} (t : X → Bool) (f : X → Y) (old ys : List Y) (xs : List X) (i : ℕ) (x : X) (within : i < length xs)
    (so_far : ys ≡ old ++ map f (filter t (take i xs))) (is : x ≡ get_or xs i x) where
  more : (b : Bool) → t x ≡ b → filter t (take (i + 1) xs) ≡ filter t (take i xs) ++ cond b (x ∷ []) []
  more b e =
      filter_more t xs i x within ∙ ap (λ (y : X). filter t (take i xs) ++ cond (t y) (y ∷ []) []) (sym is)
      ∙ ap (λ b. filter t (take i xs) ++ cond b (x ∷ []) []) e

  pub made_more : t x ≡ true → ys ++ f x ∷ [] ≡ old ++ map f (filter t (take (i + 1) xs))
  made_more e =
      ap (λ (zs : List Y). zs ++ f x ∷ []) so_far ∙ append_assoc old (map f (filter t (take i xs))) (f x ∷ [])
      ∙ ap (λ (zs : List Y). old ++ zs) (sym (ap (map f) (more true e) ∙ map-append f (filter t (take i xs)) (x ∷ [])))

  pub made_same : t x ≡ false → ys ≡ old ++ map f (filter t (take (i + 1) xs))
  made_same e = so_far ∙ ap (λ (ms : List X). old ++ map f ms) (sym (more false e ∙ append-nil (filter t (take i xs))))
