-- The volumes of a row of places after no call, after several, and after a call of one of the places.
use Rattle.std.proofs.Common.{◌≡◌, ℕ, zero, suc, List, [], ◌∷◌, Some, sym, subst}
use Rattle.std.specs.List.{AllZip}
use Rattle.std.specs.Prelude.{slice_get, slice_set}
use Rattle.std.proofs.lemmas.Option.{same_Some}

module _ {V : Type 0} (keeps : V → V → Type 0) where
  pub kept_none : ((v : V) → keeps v v) → (vols : List V) → AllZip keeps vols vols
  kept_none none [] = tt
  kept_none none (v ∷ vols) = (none v, kept_none none vols)

  pub kept_more : ((a b c : V) → keeps a b → keeps b c → keeps a c) → (xs ys zs : List V) → AllZip keeps xs ys → AllZip keeps ys zs → AllZip keeps xs zs
  kept_more more [] [] [] h k = tt
  kept_more more [] [] (z ∷ zs) h k = absurd k
  kept_more more [] (y ∷ ys) zs h k = absurd h
  kept_more more (x ∷ xs) [] zs h k = absurd h
  kept_more more (x ∷ xs) (y ∷ ys) [] h k = absurd k
  kept_more more (x ∷ xs) (y ∷ ys) (z ∷ zs) h k = (more x y z h.0 k.0, kept_more more xs ys zs h.1 k.1)

  -- one of the places was called
  pub kept_set : ((v : V) → keeps v v) → (vols : List V) (i : ℕ) (old new : V) → slice_get vols i ≡ Some old → keeps old new → AllZip keeps vols (slice_set vols i new)
  kept_set none [] i old new there k = absurd (cc)
  kept_set none (v ∷ vols) zero old new there k = (subst (λ (x : V). keeps x new) (sym (same_Some v old there)) k, kept_none none vols)
  kept_set none (v ∷ vols) (suc i) old new there k = (none v, kept_set none vols i old new there k)
