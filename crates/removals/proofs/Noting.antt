-- What the ranges are with one sequence more.
use Rattle.std.proofs.Common.{◌≡◌, ℕ, Bool, true, false, List, [], ◌∷◌, ◌++◌, refl, sym, ap, ◌∙◌}
use Rattle.std.proofs.lemmas.Bool.{true≢false}
use Rattle.js_base.specs.Bytes.{is_empty}
use Rattle.effects.specs.Ranges.{Range}
use Rattle.removals.specs.Removed.{noted}
use Rattle.removals.proofs.Pushing.{noted_cons}

pub noted_alone : (n : ℕ) (rs : List Range) → noted n false rs ≡ rs ++ record { low = n; high = n } ∷ []
noted_alone n [] = refl
noted_alone n (r ∷ []) = refl
noted_alone n (r ∷ q ∷ rs) = ap (λ (l : List Range). r ∷ l) (noted_alone n (q ∷ rs))

pub noted_joined : (n : ℕ) (r : Range) (rs : List Range) → noted n true (rs ++ r ∷ []) ≡ rs ++ record { low = r.low; high = n } ∷ []
noted_joined n r [] = refl
noted_joined n r (q ∷ []) = refl
noted_joined n r (q ∷ p ∷ rs) = ap (λ (l : List Range). q ∷ l) (noted_joined n r (p ∷ rs))

-- what was noted before stays
pub noted_after : (n : ℕ) (b : Bool) (xs rs : List Range) → (is_empty rs ≡ true → b ≡ false) → noted n b (xs ++ rs) ≡ xs ++ noted n b rs
noted_after n b [] rs h = refl
noted_after n b (x ∷ xs) rs h = noted_cons n b x (xs ++ rs) (λ e. h (empty_after xs e)) ∙ ap (λ l. x ∷ l) (noted_after n b xs rs h)
  where
    empty_after : (ys : List Range) → is_empty (ys ++ rs) ≡ true → is_empty rs ≡ true
    empty_after [] e = e
    empty_after (y ∷ ys) e = absurd (true≢false (sym e))
