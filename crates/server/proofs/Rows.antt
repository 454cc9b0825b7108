-- What holds of each volume on which a place was opened, or was not, holds of all that come back.
use Rattle.std.proofs.Common.{ℕ, List, [], ◌∷◌, ◌++◌, Option, map, inl, inr, sym, subst}
use Rattle.std.specs.List.{AllZip}
use Rattle.js_model.specs.declared.stream.State.{State}
use Rattle.place_engine.specs.declared.faults.OpenFault.{OpenFault}
use Rattle.place_engine.specs.Stepping.{Image, Seen}
use Rattle.place_engine.specs.Preparing.{RoomCauses}
use Rattle.js_desk.specs.Kept.{kept_none}
use Rattle.desk_places.specs.Opening as opening
use Rattle.desk_places.specs.declared.faults.HubFault.{HubFault}
use Rattle.desk_places.specs.declared.faults.HubFault.TheVariants as hubs
use Rattle.server.specs.Kinds.{Refuses}
use Rattle.server.specs.Refusing.{vols_of}

module _ {P V : Type 0} (seen : P → Seen) (vol : P → V) (holds : Image → State → Type 0) (reads : V → Image → Type 0) (left : V → ℕ → Image → Type 0) (clock faults : V → ℕ) (causes : RoomCauses V)
    (base : Option ℕ → V → State → Type 0) (opens : V → State → Type 0) (refuses : V → OpenFault → Type 0) (keeps : V → V → Type 0) (R : V → V → Type 0) where
  abbrev OpensOn : V → P → Type 0
  OpensOn = opening.OpensOn seen vol holds reads left clock faults causes base opens refuses keeps

  abbrev RefusesOn : V → OpenFault → V → Type 0
  RefusesOn = opening.RefusesOn seen vol holds reads left clock faults causes base opens refuses keeps

  pub opened_row : ((v : V) (p : P) → OpensOn v p → R v (vol p)) → (vols : List V) (row : List P) → AllZip OpensOn vols row → AllZip R vols (map vol row)
  opened_row opened [] [] h = tt
  opened_row opened [] (p ∷ row) h = absurd h
  opened_row opened (v ∷ vols) [] h = absurd h
  opened_row opened (v ∷ vols) (p ∷ row) h = (opened v p h.0, opened_row opened vols row h.1)

  row_behind : ((v : V) → R v v) → (xs ys : List V) (a b : V) (rest : List V) → AllZip R xs ys → R a b → AllZip R (xs ++ a ∷ rest) (ys ++ b ∷ rest)
  row_behind same [] [] a b rest h k = (k, kept_none R same rest)
  row_behind same [] (y ∷ ys) a b rest h k = absurd h
  row_behind same (x ∷ xs) [] a b rest h k = absurd h
  row_behind same (x ∷ xs) (y ∷ ys) a b rest h k = (h.0, row_behind same xs ys a b rest h.1 k)

  -- of volumes on which no desk was opened
  pub unopened_row : ((v : V) → R v v) → ((v : V) (p : P) → OpensOn v p → R v (vol p)) → ((v w : V) (fault : OpenFault) → RefusesOn v fault w → R v w)
      → (before : List V) (fault : HubFault V) → Refuses seen vol holds reads left clock faults causes base opens refuses keeps before fault → AllZip R before (vols_of fault)
  unopened_row same opened refused before (hubs.Open place fault back) h =
      subst (λ (vs : List V). AllZip R vs back.items) (sym h.before_are)
      (subst (λ (vs : List V). AllZip R (h.first ++ h.at ∷ h.more) vs) (sym h.after_are)
      (row_behind same h.first (map vol h.row) h.at h.left_of h.more (opened_row opened h.first h.row h.opened) (refused h.at h.left_of fault h.refused)))
  unopened_row same opened refused before (hubs.Conflict first second back) h =
      subst (λ (vs : List V). AllZip R before vs) (sym h.lets_go.after_are) (opened_row opened before h.row h.lets_go.opened)
  unopened_row same opened refused before (hubs.NoMemory back) (inl e) = subst (λ (vs : List V). AllZip R before vs) (sym e) (kept_none R same before)
  unopened_row same opened refused before (hubs.NoMemory back) (inr h) = subst (λ (vs : List V). AllZip R before vs) (sym h.1.after_are) (opened_row opened before h.0 h.1.opened)
