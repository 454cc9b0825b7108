-- What a crash may leave of the volume of a place that many callers hold, this server's own.
use Rattle.std.specs.Prelude.{◌≡◌, ◌≤◌, ℕ, List, map, Option, None}
use Rattle.js_model.specs.declared.stream.State.{State}
use Rattle.js_model.specs.declared.entry.PlaceEntry.{PlaceEntry}
use Rattle.js_model.specs.PlaceStates.{PlaceIn}
use Rattle.crash_laws.specs.Opened.{IsOpenedAt}
use Rattle.crash_laws.specs.Outlasting.{Outlasts}
use Rattle.crash_laws.specs.Timed.{Timed}

-- Of a kind of place: which state an image of its volume holds, what a crash at some moment from one on may have left of the volume, its moment, which
-- states it may hold whose place is stopped at a count of faults, or not stopped, and what its calls may make of it.
module _ {V Image : Type 0} (holds : Image → State → Type 0) (left : V → ℕ → Image → Type 0) (clock : V → ℕ) (base : Option ℕ → V → State → Type 0) (keeps : V → V → Type 0) where
  -- at some moment its opening began, and then it was opened to this state
  pub record IsOpenedTo (state : State) (vol : V) : Type 0 where
    pub began : ℕ
    pub before : began ≤ clock vol
    pub opened : IsOpenedAt holds left clock (base None vol) began state vol

  -- There is a volume as it was when it was opened to this state. Since then these steps were made, each answered by some moment, and a crash may leave a
  -- beginning of them, with all that were confirmed by then.
  pub record HasLasted (state : State) (steps : List PlaceEntry) (place : PlaceIn) (vol : V) : Type 0 where
    pub first : V
    pub opened : IsOpenedTo state first
    pub kept : keeps first vol
    pub timed : List Timed
    pub steps_are : map (λ (e : Timed). e.entry) timed ≡ steps
    pub outlasts : Outlasts holds left clock (base None first) (base place.stopped vol) timed state place.state first vol
