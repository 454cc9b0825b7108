-- Two moments of which one directly follows the other.
use Rattle.std.specs.Prelude.{◌≡◌, ℕ, Bool, true, ◌&&◌, not, List, [], ◌∷◌, Option, Some}
use Rattle.js_model.specs.declared.entry.Delivery.{Delivery}
use Rattle.js_model.specs.declared.event.What.{What}
use Rattle.js_model.specs.declared.stream.State.{State}
use Rattle.effects.specs.Effects.{delivery_effects, event_effects}
use Rattle.effects.specs.Folding.{fold_all}
use Rattle.effects.specs.declared.durable.Durable.{Durable}
use Rattle.effects.specs.declared.effect.Effect.{Effect}
use Rattle.effects.specs.declared.effect.Effect.TheVariants.{Now}
use Rattle.place_engine.specs.Following.{begins_with_moment, followed, is_now}

-- to fold both is to fold the second
abbrev pub LawMoments : Type 0
LawMoments =
    (before : Option Durable) (first second : ℕ) (after : Durable) → fold_all (Now first ∷ Now second ∷ []) before ≡ Some after → fold_all (Now second ∷ []) before ≡ Some after

-- there are none
abbrev pub are_apart : List Effect → Bool
are_apart [] = true
are_apart (effect ∷ more) = not (is_now effect && begins_with_moment more) && are_apart more

-- So it is of the records of an event and of a delivery, and of a tail with more behind it if it is of both: no two stand so in what is committed.
pub record LawApart : Type 0 where
  pub events : (old : State) (what : What) (now : ℕ) (room : Bool) → are_apart (event_effects old what now room) ≡ true
  pub deliveries : (old : State) (now : ℕ) (delivery : Delivery) (new : State) → are_apart (delivery_effects old now delivery new) ≡ true
  pub tails : (tail more : List Effect) → are_apart tail ≡ true → are_apart more ≡ true → are_apart (followed tail more) ≡ true
