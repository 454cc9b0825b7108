-- What a crash may leave of the volume of a place on which entries were made: a beginning of them, with all that were confirmed by then.
use Rattle.std.specs.Prelude.{◌⊎◌, ◌<◌, ◌≤◌, ℕ, List, [], ◌∷◌}
use Rattle.js_model.specs.declared.stream.State.{State}
use Rattle.crash_laws.specs.Beginnings.{Chain, Ever, IsLeftOf}
use Rattle.crash_laws.specs.Timed.{Timed}

-- each was answered between these moments
abbrev pub AreBetween : ℕ → ℕ → List Timed → Type 0
AreBetween from until [] = Unit {0}
AreBetween from until (e ∷ more) = (from ≤ e.by) × (e.by ≤ until) × AreBetween from until more

-- Of a kind of volume: which state an image of it holds, what a crash at some moment from one on may have left of it, and its moment.
module _ {V Image : Type 0} (holds : Image → State → Type 0) (left : V → ℕ → Image → Type 0) (clock : V → ℕ) where
  -- each image that a crash now may leave holds one of these states
  abbrev pub HasBases : (State → Type 0) → V → Type 0
  HasBases is_base vol = (image : Image) → left vol (clock vol) image → (b : State) × holds image b × is_base b

  -- The entries led from old to new, and were answered between the two moments of the volume. Each image of a crash at some moment from t on was left
  -- before them if t was before them, or holds what is left of them; and a confirmed one is lost only if it was answered after t. Whatever the volume may
  -- hold afterwards is left of them, with all that are confirmed.
  pub record Lasted (was_base is_base : State → Type 0) (entries : List Timed) (old new : State) (before after : V) : Type 0 where
    pub later : clock before ≤ clock after
    pub led : Chain Ever old entries new
    pub between : AreBetween (clock before) (clock after) entries
    pub crash : (t : ℕ) (image : Image) → left after t image
        → ((t < clock before) × left before t image) ⊎ ((l : State) × holds image l × IsLeftOf t was_base old entries new l)
    pub base : (b : State) → is_base b → IsLeftOf (clock after) was_base old entries new b
    pub bases : HasBases is_base after

  -- it is so if each image that a crash before them may have left held a state that the volume might hold then
  abbrev pub Outlasts : (was_base is_base : State → Type 0) → List Timed → State → State → V → V → Type 0
  Outlasts was_base is_base entries old new before after = HasBases was_base before → Lasted was_base is_base entries old new before after
