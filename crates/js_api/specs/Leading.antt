-- Entries that lead from one state to another, each by a step of its own.
use Rattle.std.specs.Prelude.{◌≡◌, List, [], ◌∷◌, ◌++◌}
use Rattle.std.proofs.Common.{refl, sym, subst}
use Rattle.js_api.specs.Entries.{DeskEntry}

module _ {W : Type 0} (step : W → DeskEntry → W → Type 0) where
  abbrev pub Leads : W → List DeskEntry → W → Type 0
  Leads a [] b = a ≡ b
  Leads a (e ∷ es) b = (mid : W) × step a e mid × Leads mid es b

  pub leads_nothing : (a : W) → Leads a [] a
  leads_nothing a = refl

  pub leads_more : (a b c : W) (first more : List DeskEntry) → Leads a first b → Leads b more c → Leads a (first ++ more) c
  leads_more a b c [] more h k = subst (λ (w : W). Leads w more c) (sym h) k
  leads_more a b c (e ∷ first) more h k = (h.0, h.1, leads_more h.0 b c first more h.2 k)

-- such entries led from the one to the other
pub record Makes {D : Type 0} (made : D → List DeskEntry → D → Type 0) (AreSuch : List DeskEntry → Type 0) (old new : D) : Type 0 where
  pub entries : List DeskEntry
  pub are : AreSuch entries
  pub led : made old entries new
