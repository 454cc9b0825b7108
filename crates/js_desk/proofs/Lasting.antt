-- What a crash may leave of the volumes of a row of places after a call of one of them.
use Rattle.std.proofs.Common.{◌≡◌, ◌≤◌, ℕ, Bool, true, false, List, [], Option, Some, refl, sym, ap, subst, ◌∙◌}
use Rattle.std.specs.Prelude.{◌==◌, slice_get, slice_set}
use Rattle.std.proofs.lemmas.Bool.{eq-eqb, eqb-true}
use Rattle.std.proofs.lemmas.Option.{same_Some}
use Rattle.js_model.specs.declared.stream.State.{State}
use Rattle.js_model.specs.PlaceStates.{PlaceIn}
use Rattle.js_api.specs.Entries.{DeskEntry}
use Rattle.crash_laws.specs.Outlasting.{Outlasts}
use Rattle.crash_laws.specs.Timed.{timed_at}
use Rattle.place_engine.specs.Stepping.{Image}
use Rattle.js_desk.specs.Lasting.{PlaceOutlasts, PlacesOutlast}
use Rattle.js_desk.specs.Outlasting.{outlast_stays}
use Rattle.desk_places.proofs.Sets.{get_other, get_set}

module _ {V : Type 0} (holds : Image → State → Type 0) (left : V → ℕ → Image → Type 0) (clock : V → ℕ) (base : Option ℕ → V → State → Type 0)
    (earlier : (v : V) (t u : ℕ) (image : Image) → t ≤ u → left v u image → left v t image) where
  -- of one it is told, and the others were not called
  pub outlast_set : (entries : List DeskEntry) (places : List PlaceIn) (vols : List V) (at : ℕ) (old new : PlaceIn) (vol end : V) → slice_get places at ≡ Some old → slice_get vols at ≡ Some vol
      → Outlasts holds left clock (base old.stopped vol) (base new.stopped end) (timed_at at entries) old.state new.state vol end → ((number : ℕ) → (at ≡ number → ⊥) → timed_at number entries ≡ [])
      → PlacesOutlast holds left clock base (record { places = places; vols = vols }) entries (record { places = slice_set places at new; vols = slice_set vols at end })
  outlast_set entries places vols at old new vol end stood was outlasts others number before v there is = by (at == number) refl
    where
      by : (b : Bool) → (at == number) ≡ b → PlaceOutlasts holds left clock base entries number before v (record { places = slice_set places at new; vols = slice_set vols at end })
      by true e =
          let hit : at ≡ number = eqb-true at number e in
          record {
            after = new;
            end = end;
            is_there = ap (λ (n : ℕ). slice_get (slice_set places at new) n) (sym hit) ∙ get_set places at old new stood;
            is_vol = ap (λ (n : ℕ). slice_get (slice_set vols at end) n) (sym hit) ∙ get_set vols at vol end was;
            outlasts =
                subst (λ (p : PlaceIn). Outlasts holds left clock (base p.stopped v) (base new.stopped end) (timed_at number entries) p.state new.state v end) (same_Some old before (sym stood ∙ ap (λ (n : ℕ). slice_get places n) hit ∙ there))
                (subst (λ (w : V). Outlasts holds left clock (base old.stopped w) (base new.stopped end) (timed_at number entries) old.state new.state w end) (same_Some vol v (sym was ∙ ap (λ (n : ℕ). slice_get vols n) hit ∙ is))
                (subst (λ (n : ℕ). Outlasts holds left clock (base old.stopped vol) (base new.stopped end) (timed_at n entries) old.state new.state vol end) hit outlasts));
          }
      by false e =
          let miss : at ≡ number → ⊥ = λ hit. (let yes : (at == number) ≡ true = eq-eqb at number hit in absurd (cc (yes, e))) in
          outlast_stays holds left clock base earlier entries number before v (record { places = slice_set places at new; vols = slice_set vols at end }) (others number miss) (get_other places at number new miss ∙ there) (get_other vols at number end miss ∙ is)
