-- Rows of places and of their volumes, from the first one on and in the other order.
use Rattle.std.proofs.Common.{◌≡◌, List, [], ◌∷◌, ◌++◌, map, sym, ap, ◌∙◌, append_assoc, append-nil}
use Rattle.std.specs.Prelude.{reverse}
use Rattle.std.specs.List.{AllZip}
use Rattle.std.proofs.lemmas.List.{map-append, reverse-append, reverse-reverse}

-- ---- one more of two rows

pub zip_more : {A B : Type 0} (R : A → B → Type 0) (xs : List A) (ys : List B) (x : A) (y : B) → AllZip R xs ys → R x y → AllZip R (xs ++ x ∷ []) (ys ++ y ∷ [])
zip_more R [] [] x y h r = (r, tt)
zip_more R [] (b ∷ ys) x y h r = absurd h
zip_more R (a ∷ xs) [] x y h r = absurd h
zip_more R (a ∷ xs) (b ∷ ys) x y h r = (h.0, zip_more R xs ys x y h.1 r)

-- ---- the other order

module _ {A : Type 0} where
  -- the last one comes first there
  pub last_first : (xs : List A) (x : A) → reverse (xs ++ x ∷ []) ≡ x ∷ reverse xs
  last_first xs x = reverse-append xs (x ∷ [])

  -- one that was the last of those to come is now the last of those that came
  pub one_came : (whole came left mid : List A) (x : A) → whole ≡ came ++ reverse mid → mid ≡ left ++ x ∷ [] → whole ≡ (came ++ x ∷ []) ++ reverse left
  one_came whole came left mid x are is =
      are ∙ ap (λ (xs : List A). came ++ reverse xs) is ∙ ap (λ (xs : List A). came ++ xs) (last_first left x) ∙ sym (append_assoc came (x ∷ []) (reverse left))

  -- it comes next
  pub next_comes : (whole came left mid : List A) (x : A) → whole ≡ came ++ reverse mid → mid ≡ left ++ x ∷ [] → whole ≡ came ++ x ∷ reverse left
  next_comes whole came left mid x are is = are ∙ ap (λ (xs : List A). came ++ reverse xs) is ∙ ap (λ (xs : List A). came ++ xs) (last_first left x)

  -- all came
  pub all_came : (whole came left : List A) → whole ≡ came ++ reverse left → left ≡ [] → whole ≡ came
  all_came whole came left are none = are ∙ ap (λ (xs : List A). came ++ reverse xs) none ∙ append-nil came

-- ---- volumes given back

module _ {P V : Type 0} (vol : P → V) where
  -- one more volume was given back
  pub one_back : (given given_new whole : List V) (row mid : List P) (place : P) → mid ≡ row ++ place ∷ [] → given_new ≡ given ++ vol place ∷ []
      → given ++ reverse (map vol mid) ≡ whole → given_new ++ reverse (map vol row) ≡ whole
  one_back given given_new whole row mid place is new e =
      ap (λ (vs : List V). vs ++ reverse (map vol row)) new
      ∙ append_assoc given (vol place ∷ []) (reverse (map vol row))
      ∙ ap (λ (vs : List V). given ++ vs) (sym (ap reverse (map-append vol row (place ∷ [])) ∙ last_first (map vol row) (vol place)))
      ∙ ap (λ (ps : List P). given ++ reverse (map vol ps)) (sym is)
      ∙ e

  -- all were, and are put in their order before those that were there
  pub all_back : (before given turned : List V) (row left : List P) → left ≡ [] → given ++ reverse (map vol left) ≡ before ++ reverse (map vol row) → turned ≡ reverse given
      → turned ≡ map vol row ++ reverse before
  all_back before given turned row left none e is =
      is
      ∙ ap reverse (sym (append-nil given) ∙ ap (λ (ps : List P). given ++ reverse (map vol ps)) (sym none) ∙ e)
      ∙ reverse-append before (reverse (map vol row))
      ∙ ap (λ (vs : List V). vs ++ reverse before) (reverse-reverse (map vol row))
