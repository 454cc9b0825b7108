-- A place that was opened on a volume, and what a crash may leave of it.
use Rattle.std.proofs.Common.{◌≡◌, ⊎_elim, ℕ, ◌≤◌, List, [], ◌∷◌, ◌++◌, length, map, Option, None, sym, ap, subst, ◌∙◌, arith}
use Rattle.std.specs.Prelude.{◌↔◌, reverse}
use Rattle.std.proofs.lemmas.List.{reverse-reverse}
use Rattle.std.proofs.lemmas.Slice.Zip.{AllZip-long}
use Rattle.js_model.specs.declared.stream.State.{State}
use Rattle.place_engine.specs.Opening.{AllHold, IsOpened}
use Rattle.place_engine.specs.Stepping.{Image, IsKept, Seen}
use Rattle.place_engine.specs.declared.faults.OpenFault.{OpenFault}
use Rattle.place_engine.specs.Preparing.{RoomCauses}
use Rattle.crash_laws.specs.Opened.{IsOpenedAt}
use Rattle.crash_laws.specs.Outlasting.{HasBases}
use Rattle.desk_places.specs.Opening.{FailsAt, OpensOn, StopsAt}
use Rattle.desk_places.proofs.Converted.{all_hold, has_bases}
use Rattle.desk_places.proofs.Rows.{last_first}

module _ {P V : Type 0} (seen : P → Seen) (vol : P → V) (holds : Image → State → Type 0) (reads : V → Image → Type 0) (left : V → ℕ → Image → Type 0) (clock faults : V → ℕ) (causes : RoomCauses V)
    (base : Option ℕ → V → State → Type 0) (opens : V → State → Type 0) (refuses : V → OpenFault → Type 0) (keeps : V → V → Type 0)
    (bases : (p : P) (b : State) → (seen p).is_base b ↔ base (seen p).place.stopped (vol p) b)
    (leaves : (p : P) (t : ℕ) (image : Image) → (seen p).left_since t image ↔ left (vol p) t image)
    (earlier : (v : V) (t u : ℕ) (image : Image) → t ≤ u → left v u image → left v t image)
    (stands : (p : P) → ((seen p).place.volume.moment ≡ clock (vol p)) × ((seen p).place.volume.faults ≡ faults (vol p)) × ((seen p).place.volume.refusals ≡ causes.refusals (vol p))) where
  pub opens_on : (before : V) (p : P) → IsOpened holds reads left clock opens before (seen p) → keeps before (vol p) → IsKept holds (seen p)
      → ((seen p).place.stopped ≡ None → (image : Image) → reads (vol p) image → (b : State) × holds image b × (seen p).is_base b)
      → OpensOn seen vol holds reads left clock faults causes base opens refuses keeps before p
  opens_on before p opened keeps_it kept read = record { opened = opened; volume = keeps_it; now = all_hold seen vol holds reads left clock faults causes base bases leaves stands p kept (read opened.going) (seen p).place.state only; since = since }
    where
      only : (b : State) → (seen p).is_base b → b ≡ (seen p).place.state
      only b is = opened.flushed.base b is ∙ opened.all_lasts

      since : AllHold holds reads left clock before (seen p).place.state → IsOpenedAt holds left clock (base None (vol p)) (clock before) (seen p).place.state (vol p)
      since held = record {
        all_lasts = opened.all_lasts;
        only = λ b is. only b ((bases p b).1 (subst (λ (o : Option ℕ). base o (vol p) b) (sym opened.going) is));
        bases = subst (λ (o : Option ℕ). HasBases holds left clock (base o (vol p)) (vol p)) opened.going (has_bases seen vol holds reads left clock faults causes base bases leaves stands p kept);
        since = λ t image le is_left. ⊎_elim
            (λ was. held.now image was)
            (λ is. is)
            (opened.earlier held (clock before) image (omega arith) ((leaves p (clock before) image).1 (earlier (vol p) (clock before) t image le is_left)));
      }

  -- where one is not opened, those that were are let go again
  pub fails_at : (before turned after pushed given : List V) (row : List P) (n : ℕ) (fault : OpenFault) (left_of : V) → turned ≡ reverse before
      → StopsAt seen vol holds reads left clock faults causes base opens refuses keeps turned fault left_of after row → n ≡ length row → pushed ≡ after ++ left_of ∷ [] → given ≡ map vol row ++ reverse pushed
      → FailsAt seen vol holds reads left clock faults causes base opens refuses keeps n fault before given
  fails_at before turned after pushed given row n why left_of is s count more back = record {
    first = s.first;
    at = s.at;
    more = reverse after;
    before_are = sym (ap reverse is ∙ reverse-reverse before) ∙ s.before_are;
    number = count ∙ AllZip-long (OpensOn seen vol holds reads left clock faults causes base opens refuses keeps) s.first row s.opened;
    row = row;
    opened = s.opened;
    left_of = left_of;
    refused = s.refused;
    after_are = back ∙ ap (λ (vs : List V). map vol row ++ reverse vs) more ∙ ap (λ (vs : List V). map vol row ++ vs) (last_first after left_of);
  }
