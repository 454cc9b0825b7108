-- Laws of the volumes that come back.
use Rattle.std.proofs.Common.{ℕ, List, [], ◌∷◌, Option, Some, None, Result, Ok, Err, map, sym, subst}
use Rattle.std.specs.List.{AllZip}
use Rattle.js_model.specs.declared.stream.State.{State}
use Rattle.place_engine.specs.declared.faults.OpenFault.{OpenFault}
use Rattle.place_engine.specs.declared.faults.PlaceFault.{PlaceFault}
use Rattle.place_engine.specs.Stepping.{Image, Seen}
use Rattle.place_engine.specs.Preparing.{RoomCauses}
use Rattle.desk_places.specs.Closing as closing
use Rattle.desk_places.specs.Closing.{End}
use Rattle.js_desk.specs.Kept.{kept_more, kept_none}
use Rattle.desk_places.specs.Opening as opening
use Rattle.server.specs.Ending.{Starved, Unopened, Attended}
use Rattle.server.specs.Keeping.{LawKept}
use Rattle.server.proofs.Rows.{opened_row, unopened_row}

module _ {P V : Type 0} (seen : P → Seen) (vol : P → V) (holds : Image → State → Type 0) (reads : V → Image → Type 0) (left : V → ℕ → Image → Type 0) (clock faults : V → ℕ) (causes : RoomCauses V)
    (base : Option ℕ → V → State → Type 0) (opens : V → State → Type 0) (refuses : V → OpenFault → Type 0) (keeps : V → V → Type 0)
    (none : (v : V) → keeps v v) (more : (a b c : V) → keeps a b → keeps b c → keeps a c) where
  abbrev OpensOn : V → P → Type 0
  OpensOn = opening.OpensOn seen vol holds reads left clock faults causes base opens refuses keeps

  abbrev EndsSo : P → Option (Result (Unit {0}) PlaceFault) → V → Type 0
  EndsSo = closing.EndsSo seen vol holds reads left clock base keeps

  abbrev EndsAt : P → End V → Type 0
  EndsAt = closing.EndsAt seen vol holds reads left clock base keeps

  pub kept_end : (p : P) (told : Option (Result (Unit {0}) PlaceFault)) (end : V) → EndsSo p told end → keeps (vol p) end
  kept_end p None end h = subst (λ (v : V). keeps (vol p) v) (sym h.1) (none (vol p))
  kept_end p (Some (Ok done)) end h = subst (λ (v : V). keeps (vol p) v) (sym h.0.2) h.0.1.volume
  kept_end p (Some (Err fault)) end h = subst (λ (v : V). keeps (vol p) v) (sym h.2) h.1.volume

  kept_ends : (row : List P) (ends : List (End V)) → AllZip EndsAt row ends → AllZip keeps (map vol row) (map (λ (e : End V). e.vol) ends)
  kept_ends [] [] h = tt
  kept_ends [] (e ∷ ends) h = absurd h
  kept_ends (p ∷ row) [] h = absurd h
  kept_ends (p ∷ row) (e ∷ ends) h = (kept_end p e.told e.vol h.0.ends, kept_ends row ends h.1)

  pub kept : LawKept seen vol holds reads left clock faults causes base opens refuses keeps
  kept stream status v0 v1 old new (Starved h) = subst (λ (vs : List V). AllZip keeps v0 vs) (sym h.vols) (kept_none keeps none v0)
  kept stream status v0 v1 old new (Unopened h) = subst (λ (vs : List V). AllZip keeps v0 vs) (sym h.vols) (unopened_row seen vol holds reads left clock faults causes base opens refuses keeps keeps none (λ v p o. o.volume) (λ v w fault r. r.volume) v0 h.fault h.refused)
  kept stream status v0 v1 old new (Attended h) =
      let o = h.opens in
      let c = h.closes in
      let opened : AllZip keeps v0 h.desk.vols = subst (λ (vs : List V). AllZip keeps v0 vs) (sym o.vols) (opened_row seen vol holds reads left clock faults causes base opens refuses keeps keeps (λ v p o. o.volume) v0 o.row o.opened) in
      let ended : AllZip keeps h.after.vols h.closed.vols.items =
      subst (λ (vs : List V). AllZip keeps vs h.closed.vols.items) c.before
      (subst (λ (vs : List V). AllZip keeps (map vol c.row) vs) (sym c.closes.after) (kept_ends c.row c.closes.ends c.closes.ended))
      in
      let done = kept_more keeps more v0 h.desk.vols h.after.vols opened h.attended.made.1 in
      subst (λ (vs : List V). AllZip keeps v0 vs) (sym h.vols) (kept_more keeps more v0 h.after.vols h.closed.vols.items done ended)
