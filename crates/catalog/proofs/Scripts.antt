-- What scripts of calls need of the catalog.
use Rattle.std.proofs.Common.{◌≡◌, ◌≢◌, ℕ, zero, suc, [], ◌∷◌, None, Some, refl, ap}
use Rattle.std.specs.Prelude.{option_map}
use Rattle.js_model.specs.declared.kept_place.KeptPlace.{KeptPlace}
use Rattle.js_model.specs.Catalog.{Place, Used, catalog_of, kept_place, kept_stream}
use Rattle.catalog.specs.Apart.{used_at, AreApart, IsApart}
use Rattle.catalog.proofs.Apartness.{vacant_apart}

-- ---- one stream is apart from no other

single_apart : (p : Place) → IsApart (p ∷ [])
single_apart p = record { at = λ m n a b ne ha hb. go m n a b ne ha hb }
  where
    go : (m n : ℕ) (a b : Used) → m ≢ n → used_at (p ∷ []) m ≡ Some a → used_at (p ∷ []) n ≡ Some b → AreApart a b
    go zero zero a b ne ha hb = absurd (ne refl)
    go zero (suc n) a b ne ha hb = absurd (cc (hb))
    go (suc m) n a b ne ha hb = absurd (cc (ha))

pub one_kept_apart : (kept other : KeptPlace) → other.stream ≡ None → IsApart (catalog_of (kept ∷ other ∷ []))
one_kept_apart kept other e = vacant_apart (kept_place kept ∷ []) (kept_place other) (ap (option_map kept_stream) e) (single_apart (kept_place kept))
