-- Counts of the volumes of a desk's places, which do not fall as entries lead it on.
use Rattle.std.proofs.Common.{◌≡◌, ◌≤◌, ℕ, zero, suc, Bool, List, [], ◌∷◌, Some, sym, ap, subst, arith}
use Rattle.std.specs.List.{AllZip}
use Rattle.std.specs.Prelude.{slice_get, slice_set}
use Rattle.std.proofs.lemmas.Option.{same_Some}
use Rattle.js_base.specs.Causes.{Rose}
use Rattle.js_base.proofs.Causes.{rose_after, rose_before}
use Rattle.js_model.specs.PlaceStates.{PlaceIn, VolumeAt}
use Rattle.js_api.specs.Entries.{DeskEntry, Routed, Looked, Turned, Resumed, Held, Stirred, Halted, Missed, Spent, Hold}
use Rattle.js_api.specs.Leading.{Leads}
use Rattle.js_api.specs.Worlds.{Scene, SoloStep, IsHeld, IsLater, IsStirred}
use Rattle.js_desk.specs.Kept.{kept_more, kept_none, kept_set}

-- of a count that does not fall where a volume stands later
module _ (count : VolumeAt → ℕ) (grows : (a b : VolumeAt) → IsLater a b → count a ≤ count b) where
  abbrev pub IsNoLess : PlaceIn → PlaceIn → Type 0
  IsNoLess a b = count a.volume ≤ count b.volume

  -- it did not rise
  abbrev pub IsNoRise : PlaceIn → PlaceIn → Type 0
  IsNoRise a b = Rose (count a.volume) (count b.volume) → ⊥

  as_before : (places : List PlaceIn) → AllZip IsNoLess places places
  as_before places = kept_none IsNoLess (λ place. omega arith) places

  -- none rose before others
  pub rise_front : (xs ys zs : List PlaceIn) → AllZip IsNoLess ys zs → AllZip IsNoRise xs zs → AllZip IsNoRise xs ys
  rise_front [] [] zs h k = tt
  rise_front [] (y ∷ ys) [] h k = absurd h
  rise_front [] (y ∷ ys) (z ∷ zs) h k = absurd k
  rise_front (x ∷ xs) [] [] h k = absurd k
  rise_front (x ∷ xs) [] (z ∷ zs) h k = absurd h
  rise_front (x ∷ xs) (y ∷ ys) [] h k = absurd h
  rise_front (x ∷ xs) (y ∷ ys) (z ∷ zs) h k = (λ rose. k.0 (rose_after (count x.volume) (count y.volume) (count z.volume) rose h.0), rise_front xs ys zs h.1 k.1)

  -- none rose behind others
  pub rise_behind : (xs ys zs : List PlaceIn) → AllZip IsNoLess xs ys → AllZip IsNoRise xs zs → AllZip IsNoRise ys zs
  rise_behind [] [] zs h k = k
  rise_behind [] (y ∷ ys) zs h k = absurd h
  rise_behind (x ∷ xs) [] zs h k = absurd h
  rise_behind (x ∷ xs) (y ∷ ys) [] h k = absurd k
  rise_behind (x ∷ xs) (y ∷ ys) (z ∷ zs) h k = (λ rose. k.0 (rose_before (count x.volume) (count y.volume) (count z.volume) h.0 rose), rise_behind xs ys zs h.1 k.1)

  -- one place was put in the place of another
  pub rise_there : (places : List PlaceIn) (n : ℕ) (old new : PlaceIn) → slice_get places n ≡ Some old → AllZip IsNoRise places (slice_set places n new) → IsNoRise old new
  rise_there [] n old new there h = absurd (cc)
  rise_there (place ∷ places) zero old new there h = subst (λ (p : PlaceIn). IsNoRise p new) (same_Some place old there) h.0
  rise_there (place ∷ places) (suc n) old new there h = rise_there places n old new there h.1

  -- ---- one entry

  held_later : (hold : Hold) (old new : PlaceIn) → IsHeld hold old new → IsNoLess old new
  held_later hold old new h =
      omega (
        arith,
        ap (λ (v : VolumeAt). count v) h.volume_was,
        ap (λ (v : VolumeAt). count v) h.volume_is,
        grows hold.volume_before hold.volume_between h.before_between,
        grows hold.volume_between hold.volume_after h.between_after,
      )

  stirred_later : (before after : VolumeAt) (failed : Bool) (old new : PlaceIn) → IsStirred before after failed old new → IsNoLess old new
  stirred_later before after failed old new h = omega (arith, ap (λ (v : VolumeAt). count v) h.volume_was, ap (λ (v : VolumeAt). count v) h.volume_is, grows before after h.later)

  same_later : (old new : Scene) → new.world.places ≡ old.world.places → AllZip IsNoLess old.world.places new.world.places
  same_later old new e = subst (λ (ps : List PlaceIn). AllZip IsNoLess old.world.places ps) (sym e) (as_before old.world.places)

  pub step_later : (old new : Scene) (entry : DeskEntry) → SoloStep old entry new → AllZip IsNoLess old.world.places new.world.places
  step_later old new (Routed call told) h = same_later old new (ap (λ (s : Scene). s.world.places) h.1)
  step_later old new (Looked joined call told) h = same_later old new (ap (λ (s : Scene). s.world.places) h.1)
  step_later old new (Turned after found) h = same_later old new (ap (λ (s : Scene). s.world.places) h.2)
  step_later old new (Resumed last) h = same_later old new (ap (λ (s : Scene). s.world.places) h.1)
  step_later old new (Held hold) h =
      let a = h.0 in
      subst (λ (ps : List PlaceIn). AllZip IsNoLess old.world.places ps) (sym a.places)
      (kept_set IsNoLess (λ place. omega arith) old.world.places hold.at.place a.place a.after a.is_there (held_later hold a.place a.after a.held))
  step_later old new (Stirred at before after failed) h =
      let a = h.0 in
      subst (λ (ps : List PlaceIn). AllZip IsNoLess old.world.places ps) (sym a.places)
      (kept_set IsNoLess (λ place. omega arith) old.world.places at.place a.place a.stirred a.is_there (stirred_later before after failed a.place a.stirred a.is_stirred))
  step_later old new (Halted at state) h = same_later old new (ap (λ (s : Scene). s.world.places) h.1)
  step_later old new (Missed at kept) h = same_later old new (ap (λ (s : Scene). s.world.places) h.1)
  step_later old new (Spent number) h = absurd h

  pub unrisen_by : (old new : PlaceIn) (before after : VolumeAt) → old.volume ≡ before → new.volume ≡ after → IsNoRise old new → Rose (count before) (count after) → ⊥
  unrisen_by old new before after was is h rose =
      h (subst (λ (v : VolumeAt). Rose (count v) (count new.volume)) (sym was) (subst (λ (v : VolumeAt). Rose (count before) (count v)) (sym is) rose))

  -- ---- many entries

  pub leads_later : (old new : Scene) (entries : List DeskEntry) → Leads SoloStep old entries new → AllZip IsNoLess old.world.places new.world.places
  leads_later old new [] h = subst (λ (s : Scene). AllZip IsNoLess old.world.places s.world.places) h (as_before old.world.places)
  leads_later old new (entry ∷ more) h =
      kept_more IsNoLess (λ a b c first next. omega (arith, first, next)) old.world.places h.0.world.places new.world.places (step_later old h.0 entry h.1) (leads_later h.0 new more h.2)

-- ---- both counts

abbrev pub faults_of : VolumeAt → ℕ
faults_of volume = volume.faults

pub faults_grow : (a b : VolumeAt) → IsLater a b → faults_of a ≤ faults_of b
faults_grow a b h = h.faults

abbrev pub refusals_of : VolumeAt → ℕ
refusals_of volume = volume.refusals

pub refusals_grow : (a b : VolumeAt) → IsLater a b → refusals_of a ≤ refusals_of b
refusals_grow a b h = h.refusals
