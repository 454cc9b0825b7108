-- What a crash may leave of volumes on which no desk was opened.
use Rattle.std.proofs.Common.{◌≡◌, ◌≤◌, ◌⊎◌, ℕ, List, Option, inl, inr, arith, sym, subst}
use Rattle.std.specs.List.{AllZip}
use Rattle.js_model.specs.declared.stream.State.{State}
use Rattle.place_engine.specs.declared.faults.OpenFault.{OpenFault}
use Rattle.place_engine.specs.Opening.{AllHold}
use Rattle.place_engine.specs.Stepping.{Image, Seen}
use Rattle.place_engine.specs.Preparing.{RoomCauses}
use Rattle.js_desk.specs.Kept.{kept_none}
use Rattle.desk_places.specs.Opening as opening
use Rattle.server.proofs.Rows.{unopened_row}
use Rattle.run_laws.specs.Crashes as crashes
use Rattle.run_laws.specs.Crashes.{LawUnopenedHolds}

module _ {P V : Type 0} (seen : P → Seen) (vol : P → V) (holds : Image → State → Type 0) (reads : V → Image → Type 0) (left : V → ℕ → Image → Type 0) (clock faults : V → ℕ) (causes : RoomCauses V)
    (base : Option ℕ → V → State → Type 0) (opens : V → State → Type 0) (refuses : V → OpenFault → Type 0) (keeps : V → V → Type 0)
    (earlier : (v : V) (t u : ℕ) (image : Image) → t ≤ u → left v u image → left v t image) (holds_one : (image : Image) (a b : State) → holds image a → holds image b → a ≡ b)
    (opens_read : (v : V) (state : State) (image : Image) → opens v state → reads v image → holds image state) where
  abbrev StillHolds : V → V → Type 0
  StillHolds = crashes.StillHolds seen vol holds reads left clock faults causes base opens refuses keeps

  abbrev OpensOn : V → P → Type 0
  OpensOn = opening.OpensOn seen vol holds reads left clock faults causes base opens refuses keeps

  abbrev RefusesOn : V → OpenFault → V → Type 0
  RefusesOn = opening.RefusesOn seen vol holds reads left clock faults causes base opens refuses keeps

  untouched : (v : V) → StillHolds v v
  untouched v state h t image le is_left = h.all.now image (earlier v (clock v) t image le is_left)

  opened : (v : V) (p : P) → OpensOn v p → StillHolds v (vol p)
  opened v p o state h t image le is_left =
      let stands = (seen p).place.state in
      let same = holds_one h.image state stands (h.all.read h.image h.read) (opens_read v stands h.image o.opened.state h.read) in
      let held = subst (λ (s : State). AllHold holds reads left clock v s) same h.all in
      subst (λ (s : State). holds image s) (sym same) ((o.since held).since t image le is_left)

  refused : (v w : V) (fault : OpenFault) → RefusesOn v fault w → StillHolds v w
  refused v w _ r state h t image le is_left = by (r.unopened state h.opened h.all (clock v) image (omega arith) (earlier w (clock v) t image le is_left))
    where
      by : left v (clock v) image ⊎ holds image state → holds image state
      by (inl k) = h.all.now image k
      by (inr k) = k

  pub unopened_holds : LawUnopenedHolds seen vol holds reads left clock faults causes base opens refuses keeps
  unopened_holds status v0 v1 old new (inl h) = subst (λ (vs : List V). AllZip StillHolds v0 vs) (sym h.vols) (kept_none StillHolds untouched v0)
  unopened_holds status v0 v1 old new (inr h) =
      subst (λ (vs : List V). AllZip StillHolds v0 vs) (sym h.vols)
      (unopened_row seen vol holds reads left clock faults causes base opens refuses keeps StillHolds untouched opened refused v0 h.fault h.refused)
