-- JetStream lets no two streams share a name or a subject.
use Rattle.std.specs.Prelude.{◌≡◌, ◌≢◌, ℕ, zero, suc, false, [], ◌∷◌, Option, None, Some}
use Rattle.js_base.specs.Bytes.{same}
use Rattle.js_model.specs.Catalog.{Catalog, Used, all_subjects, meets_used}

-- the stream at the place of this number
abbrev pub used_at : Catalog → ℕ → Option Used
used_at [] n = None
used_at (p ∷ ps) zero = p.used
used_at (p ∷ ps) (suc n) = used_at ps n

-- two streams have other names, and no subject of the one, old or new, meets one of the other
pub record AreApart (a b : Used) : Type 0 where
  pub names : same a.name b.name ≡ false
  pub subjects : meets_used (all_subjects a) b ≡ false

-- each two streams of a catalog are apart
pub record IsApart (c : Catalog) : Type 0 where
  pub at : (m n : ℕ) (a b : Used) → m ≢ n → used_at c m ≡ Some a → used_at c n ≡ Some b → AreApart a b
