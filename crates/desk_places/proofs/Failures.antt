-- The first failure among what the flushes answered so far.
use Rattle.std.proofs.Common.{◌≡◌, ◌+◌, ℕ, Bool, true, false, List, [], ◌∷◌, ◌++◌, length, map, Option, None, Some, Result, Ok, Err, refl, sym, ap, ◌∙◌, arith}
use Rattle.std.specs.Prelude.{is_some, reverse}
use Rattle.std.specs.List.{AllZip}
use Rattle.std.proofs.lemmas.List.{length-map, map-append, reverse-reverse}
use Rattle.place_engine.specs.declared.faults.PlaceFault.{PlaceFault}
use Rattle.desk_places.specs.Closing.{End, failure_or, first_failure}
use Rattle.desk_places.proofs.Rows.{one_came, zip_more}

pub one_more_told : (n : ℕ) (tolds : List (Option (Result (Unit {0}) PlaceFault))) (told : Option (Result (Unit {0}) PlaceFault))
    → first_failure n (tolds ++ told ∷ []) ≡ failure_or (first_failure n tolds) (n + length tolds) told
one_more_told n [] None = refl
one_more_told n [] (Some (Ok done)) = refl
one_more_told n [] (Some (Err fault)) = ap (λ (k : ℕ). Some (k, fault)) (omega arith)
one_more_told n (None ∷ more) told = one_more_told (n + 1) more told ∙ ap (λ (k : ℕ). failure_or (first_failure (n + 1) more) k told) (omega arith)
one_more_told n (Some (Ok done) ∷ more) told = one_more_told (n + 1) more told ∙ ap (λ (k : ℕ). failure_or (first_failure (n + 1) more) k told) (omega arith)
one_more_told n (Some (Err fault) ∷ more) told = refl

-- ---- whether a place is stopped

pub is_some_so : (stopped told : Option ℕ) (b : Bool) → told ≡ stopped → b ≡ is_some told → b ≡ true → (count : ℕ) × (stopped ≡ Some count)
is_some_so stopped (Some count) b same is e = (count, sym same)
is_some_so stopped None b same is e = absurd (cc)

pub is_none_so : (stopped told : Option ℕ) (b : Bool) → told ≡ stopped → b ≡ is_some told → b ≡ false → stopped ≡ None
is_none_so stopped (Some count) b same is e = absurd (cc)
is_none_so stopped None b same is e = sym same

-- ---- the places that were closed

-- those that came and how they ended, and those that are left in the other order
abbrev pub AreClosedSo : {P V : Type 0} → (P → End V → Type 0) → List P → List P → List V → Option (ℕ × PlaceFault) → Type 0
AreClosedSo {P} {V} EndsSo places left vols failed =
    (came : List P) × (ends : List (End V)) × (places ≡ came ++ reverse left) × AllZip EndsSo came ends × (vols ≡ map (λ (e : End V). e.vol) ends)
    × (failed ≡ first_failure 0 (map (λ (e : End V). e.told) ends))

module _ {P V : Type 0} (EndsSo : P → End V → Type 0) (places : List P) where
  pub none_closed : (turned : List P) (vols : List V) → turned ≡ reverse places → vols ≡ [] → AreClosedSo EndsSo places turned vols None
  none_closed turned vols is none = ([], [], sym (ap reverse is ∙ reverse-reverse places), tt, none, refl)

  pub one_closed : (left mid : List P) (vols vols_new : List V) (failed failed_new : Option (ℕ × PlaceFault)) (n : ℕ) (place : P) (end : End V) → AreClosedSo EndsSo places mid vols failed
      → mid ≡ left ++ place ∷ [] → EndsSo place end → vols_new ≡ vols ++ end.vol ∷ [] → n ≡ length vols → failed_new ≡ failure_or failed n end.told → AreClosedSo EndsSo places left vols_new failed_new
  one_closed left mid vols vols_new failed failed_new n place end k is ended new count fails = (
    k.0 ++ place ∷ [],
    k.1 ++ end ∷ [],
    one_came places k.0 left mid place k.2 is,
    zip_more EndsSo k.0 k.1 place end k.3 ended,
    new ∙ ap (λ (vs : List V). vs ++ end.vol ∷ []) k.4 ∙ sym (map-append (λ (e : End V). e.vol) k.1 (end ∷ [])),
    fails
        ∙ ap (λ (f : Option (ℕ × PlaceFault)). failure_or f n end.told) k.5
        ∙ ap (λ (m : ℕ). failure_or (first_failure 0 tolds) m end.told) numbered
        ∙ sym (one_more_told 0 tolds end.told)
        ∙ ap (first_failure 0) (sym (map-append (λ (e : End V). e.told) k.1 (end ∷ []))),
  )
    where
      tolds : List (Option (Result (Unit {0}) PlaceFault))
      tolds = map (λ (e : End V). e.told) k.1

      numbered : n ≡ 0 + length tolds
      numbered = omega (arith, count, ap length k.4, length-map k.1 (λ (e : End V). e.vol), length-map k.1 (λ (e : End V). e.told))
