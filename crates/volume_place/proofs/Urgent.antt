-- A step is urgent if it is firm or overdue.
use Rattle.std.proofs.Common.{◌≡◌, ◌⊎◌, inl, inr, ◌||◌, Bool, true, false, None, Some, refl, sym, subst}
use Rattle.std.specs.Prelude.{Decides, IfSome, Option, option_map}
use Rattle.std.proofs.lemmas.Bool.{true≢false}

module _ (P Q : Type 0) where
  either : (firm overdue : Bool) → Decides firm P → Decides overdue Q → Decides (firm || overdue) (P ⊎ Q)
  either true overdue p q = (λ is. inl (p.0 refl), λ is. refl)
  either false true p q = (λ is. inr (q.0 refl), λ is. refl)
  either false false p q = (λ is. absurd (true≢false (sym is)), neither)
    where
      neither : P ⊎ Q → false ≡ true
      neither (inl is) = p.1 is
      neither (inr is) = q.1 is

  pub urgent_decides : (firm : Option Bool) (overdue : Bool) (urgent : Option Bool) → urgent ≡ option_map (λ (f : Bool). f || overdue) firm → IfSome firm (λ f. Decides f P)
      → Decides overdue Q → IfSome urgent (λ u. Decides u (P ⊎ Q))
  urgent_decides None overdue urgent same p q = subst (λ (o : Option Bool). IfSome o (λ u. Decides u (P ⊎ Q))) (sym same) tt
  urgent_decides (Some f) overdue urgent same p q = subst (λ (o : Option Bool). IfSome o (λ u. Decides u (P ⊎ Q))) (sym same) (either f overdue p q)
