-- What a port was told of who listens, once no more can be asked.
use Rattle.std.proofs.Common.{◌≡◌, ℕ, Bool, List, [], ◌∷◌, length, take, Err, refl, sym, ap, subst, ◌∙◌}
use Rattle.js_model.specs.Router.{RouteCall, RouteTold}
use Rattle.js_api.specs.Entries.{Reading}
use Rattle.place_engine.specs.Pushes.{Pushing}
use Rattle.desk_hold.specs.declared.port.PortFault.TheVariants as faults
use Rattle.desk_hold.specs.Ports.{AreHeard, HearsBy, readings_of}
use Rattle.desk_hold.proofs.Listeners.{HeardSoFar, reading_of}

-- those of the first push consumers
first_readings : (pushes : List Pushing) (told : List Bool) → readings_of (take (length told) pushes) told ≡ readings_of pushes told
first_readings [] [] = refl
first_readings [] (h ∷ told) = refl
first_readings (p ∷ pushes) [] = refl
first_readings (p ∷ pushes) (h ∷ told) = ap (λ (rs : List Reading). reading_of p h ∷ rs) (first_readings pushes told)

module _ {R : Type 0} (routes : R → RouteCall → RouteTold → R → Type 0) (worn : R → ℕ → R → Type 0) where
  heard_first : (pushes : List Pushing) (at : ℕ) (told : List Bool) (old here : R) → HeardSoFar routes worn pushes at told old here → AreHeard routes worn old (readings_of pushes told) here
  heard_first pushes at told old here h =
      subst (λ (rs : List Reading). AreHeard routes worn old rs here) (ap (λ (n : ℕ). readings_of (take n pushes) told) (sym h.count) ∙ first_readings pushes told) h.heard

  -- memory ran out after them
  pub then_short : (pushes : List Pushing) (at : ℕ) (told : List Bool) (old here : R) → HeardSoFar routes worn pushes at told old here → HearsBy routes worn pushes (Err faults.NoMemory) old here
  then_short pushes at told old here h = (told, heard_first pushes at told old here h)

  -- no turn was left for the next one
  pub then_worn : (pushes : List Pushing) (at : ℕ) (told : List Bool) (number : ℕ) (old here new : R) → HeardSoFar routes worn pushes at told old here → worn here number new
      → HearsBy routes worn pushes (Err (faults.Worn number)) old new
  then_worn pushes at told number old here new h is = (told, here, heard_first pushes at told old here h, is)
