-- The map of the names follows the places.
use Rattle.std.proofs.Common.{◌≡◌, ◌≢◌, ℕ, zero, suc, ◌+◌, ◌<◌, ◌==◌, ◌⊎◌, Bool, true, false, cond, List, [], ◌∷◌, length, map, get_or, Option, None, Some, refl, sym, ap, ◌∙◌, inl, inr, arith, eq-eqb}
use Rattle.std.proofs.lemmas.Bool.{ne_eqb, true≢false}
use Rattle.std.proofs.lemmas.Bool.Decides.{eqb_tells}
use Rattle.js_base.specs.Bytes.{Bytes, same}
use Rattle.js_base.proofs.Meeting.{same_is}
use Rattle.js_model.specs.Catalog.{Catalog, Used, if_used, first_place, place_named, edited_used}
use Rattle.catalog.specs.declared.entry.Entry.{Entry}
use Rattle.catalog.specs.declared.names.Names.{Names}
use Rattle.catalog.specs.Names.{place_in, Sets}
use Rattle.catalog.specs.Entries.{place_of}
use Rattle.catalog.specs.Apart.{used_at, IsApart}
use Rattle.catalog.specs.Holding.{is_number, is_named, NamesPlaces}
use Rattle.catalog.proofs.Meetings.{same_sym}
use Rattle.catalog.proofs.Apartness.{DiffersAt}

-- the stream that has a name
abbrev has_name : Bytes → Option Used → Bool
has_name name o = if_used (λ u. same u.name name) o

-- ---- a name more

-- another stream has not the name of this one
unnamed : (c : Catalog) (k n : ℕ) (key name : Bytes) (u : Used) → IsApart c → used_at c k ≡ Some u → u.name ≡ key → same key name ≡ true → n ≢ k → has_name name (used_at c n) ≡ false
unnamed c k n key name u apart there is e ne = go (used_at c n) refl
  where
    named : u.name ≡ name
    named = is ∙ same_is key name e

    go : (o : Option Used) → used_at c n ≡ o → has_name name o ≡ false
    go None h = refl
    go (Some b) h = ap (same b.name) (sym named) ∙ same_sym b.name u.name ∙ (apart.at k n u b (λ e. ne (sym e)) there h).names

module _ (names names' : Names) (c c' : Catalog) (k : ℕ) (key : Bytes) (u : Used) (old : NamesPlaces names c) (differs : DiffersAt c c' k) where
  pub name_put : used_at c k ≡ None → used_at c' k ≡ Some u → u.name ≡ key → IsApart c' → Sets names names' key (Some k) → NamesPlaces names' c'
  name_put before after is apart updates = record {
    at = λ name n. ap (λ o. is_number o n) (updates.at name) ∙ go name n (same key name) refl (eqb_tells n k);
  }
    where
      go : (name : Bytes) (n : ℕ) (b : Bool) → same key name ≡ b → (((n == k) ≡ true) × (n ≡ k)) ⊎ (((n == k) ≡ false) × (n ≢ k))
          → is_number (cond b (Some k) (place_in names name)) n ≡ is_named c' name n
      go name n true e (inl f) = eq-eqb k n (sym f.1) ∙ sym (ap (λ m. has_name name (used_at c' m)) f.1 ∙ ap (has_name name) after ∙ ap (λ t. same t name) is ∙ e)
      go name n true e (inr f) = ne_eqb k n (λ h. f.1 (sym h)) ∙ sym (unnamed c' k n key name u apart after is e f.1)
      go name n false e (inl f) =
          old.at name n ∙ ap (λ m. has_name name (used_at c m)) f.1 ∙ ap (has_name name) before
          ∙ sym (ap (λ m. has_name name (used_at c' m)) f.1 ∙ ap (has_name name) after ∙ ap (λ t. same t name) is ∙ e)
      go name n false e (inr f) = old.at name n ∙ sym (ap (has_name name) (differs.others n f.1))

  pub name_gone : used_at c k ≡ Some u → used_at c' k ≡ None → u.name ≡ key → IsApart c → Sets names names' key None → NamesPlaces names' c'
  name_gone before after is apart updates = record {
    at = λ name n. ap (λ o. is_number o n) (updates.at name) ∙ go name n (same key name) refl (eqb_tells n k);
  }
    where
      go : (name : Bytes) (n : ℕ) (b : Bool) → same key name ≡ b → (((n == k) ≡ true) × (n ≡ k)) ⊎ (((n == k) ≡ false) × (n ≢ k))
          → is_number (cond b None (place_in names name)) n ≡ is_named c' name n
      go name n true e (inl f) = sym (ap (λ m. has_name name (used_at c' m)) f.1 ∙ ap (has_name name) after)
      go name n true e (inr f) = sym (ap (has_name name) (differs.others n f.1) ∙ unnamed c k n key name u apart before is e f.1)
      go name n false e (inl f) =
          old.at name n ∙ ap (λ m. has_name name (used_at c m)) f.1 ∙ ap (has_name name) before ∙ ap (λ t. same t name) is ∙ e
          ∙ sym (ap (λ m. has_name name (used_at c' m)) f.1 ∙ ap (has_name name) after)
      go name n false e (inr f) = old.at name n ∙ sym (ap (has_name name) (differs.others n f.1))

-- ---- the same names

-- the change keeps the name
pub record KeepsName (f : Used → Used) : Type 0 where
  pub at : (u : Used) → (f u).name ≡ u.name

pub names_kept : (names : Names) (c c' : Catalog) (k : ℕ) (f : Used → Used) → NamesPlaces names c → DiffersAt c c' k → used_at c' k ≡ edited_used f (used_at c k) → KeepsName f → NamesPlaces names c'
names_kept names c c' k f old differs there keeps = record { at = λ name n. old.at name n ∙ go name n (eqb_tells n k) }
  where
    stays : (name : Bytes) (o : Option Used) → has_name name (edited_used f o) ≡ has_name name o
    stays name None = refl
    stays name (Some u) = ap (λ t. same t name) (keeps.at u)

    go : (name : Bytes) (n : ℕ) → (((n == k) ≡ true) × (n ≡ k)) ⊎ (((n == k) ≡ false) × (n ≢ k)) → is_named c name n ≡ is_named c' name n
    go name n (inl f') = sym (ap (λ m. has_name name (used_at c' m)) f'.1 ∙ ap (has_name name) there ∙ stays name (used_at c k) ∙ ap (λ m. has_name name (used_at c m)) (sym f'.1))
    go name n (inr f') = sym (ap (has_name name) (differs.others n f'.1))

pub names_same : (names : Names) (c c' : Catalog) → NamesPlaces names c → ((n : ℕ) → used_at c' n ≡ used_at c n) → NamesPlaces names c'
names_same names c c' old same' = record { at = λ name n. old.at name n ∙ sym (ap (has_name name) (same' n)) }

-- a map that tells the same
pub names_told : (names names' : Names) (c : Catalog) → NamesPlaces names c → ((name : Bytes) → place_in names' name ≡ place_in names name) → NamesPlaces names' c
names_told names names' c old same' = record { at = λ name n. ap (λ o. is_number o n) (same' name) ∙ old.at name n }

-- ---- looking up

named_within : (name : Bytes) (c : Catalog) (n : ℕ) → is_named c name n ≡ true → n < length c
named_within name [] n h = absurd (true≢false (sym h))
named_within name (p ∷ c) zero h = omega arith
named_within name (p ∷ c) (suc n) h = omega (arith, named_within name c n h)

-- the place that the map tells is there
pub told_within : (names : Names) (c : Catalog) (name : Bytes) (m : ℕ) → NamesPlaces names c → place_in names name ≡ Some m → m < length c
told_within names c name m old e = named_within name c m (sym (old.at name m) ∙ ap (λ o. is_number o m) e ∙ eq-eqb m m refl)

first_named : (name : Bytes) (es : List Entry) (n i : ℕ) (e : Entry) → i < length es → e ≡ get_or es i e → ((j : ℕ) → is_named (map place_of es) name j ≡ (i == j))
    → first_place (λ n p. has_name name p.used) n (map place_of es) ≡ Some (record { place = n + i; incarnation = e.incarnation })
first_named name [] n i e within is h = absurd (omega (arith, within))
first_named name (x ∷ es) n zero e within is h =
    let at : n ≡ n + 0 = omega arith in
    ap (λ b. cond b (Some (record { place = n; incarnation = x.incarnation })) (first_place (λ n p. has_name name p.used) (n + 1) (map place_of es))) (h zero)
    ∙ ap (λ (y : Entry). Some (record { place = n; incarnation = y.incarnation })) (sym is)
    ∙ ap (λ (m : ℕ). Some (record { place = m; incarnation = e.incarnation })) at
first_named name (x ∷ es) n (suc i) e within is h =
    let at : n + 1 + i ≡ n + suc i = omega arith in
    ap (λ b. cond b (Some (record { place = n; incarnation = x.incarnation })) (first_place (λ n p. has_name name p.used) (n + 1) (map place_of es))) (h zero ∙ ne_eqb (suc i) zero (λ e. omega (arith, e)))
    ∙ first_named name es (n + 1) i e (omega (arith, within)) is (λ j. h (suc j) ∙ next i j)
    ∙ ap (λ (m : ℕ). Some (record { place = m; incarnation = e.incarnation })) at
  where
    next : (i j : ℕ) → (suc i == suc j) ≡ (i == j)
    next i j = elim (eqb_tells i j) [
      | inl h ↦ eq-eqb (suc i) (suc j) (ap suc h.1) ∙ sym h.0
      | inr h ↦ ne_eqb (suc i) (suc j) (λ e. h.1 (omega (arith, e))) ∙ sym h.0
    ]

none_named : (name : Bytes) (c : Catalog) (n : ℕ) → ((j : ℕ) → is_named c name j ≡ false) → first_place (λ n p. has_name name p.used) n c ≡ None
none_named name [] n h = refl
none_named name (p ∷ c) n h =
    ap (λ b. cond b (Some (record { place = n; incarnation = p.incarnation })) (first_place (λ n p. has_name name p.used) (n + 1) c)) (h zero) ∙ none_named name c (n + 1) (λ j. h (suc j))

pub told_named : (names : Names) (es : List Entry) (name : Bytes) (m : ℕ) (e : Entry) → NamesPlaces names (map place_of es) → place_in names name ≡ Some m → m < length es → e ≡ get_or es m e
    → place_named name (map place_of es) ≡ Some (record { place = m; incarnation = e.incarnation })
told_named names es name m e old told within is =
    let at : 0 + m ≡ m = omega arith in
    first_named name es 0 m e within is (λ j. sym (old.at name j) ∙ ap (λ o. is_number o j) told) ∙ ap (λ (n : ℕ). Some (record { place = n; incarnation = e.incarnation })) at

pub told_none : (names : Names) (c : Catalog) (name : Bytes) → NamesPlaces names c → place_in names name ≡ None → place_named name c ≡ None
told_none names c name old told = none_named name c 0 (λ j. sym (old.at name j) ∙ ap (λ o. is_number o j) told)
