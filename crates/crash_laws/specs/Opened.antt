-- A place that was opened, and of which a crash may leave nothing but what it was opened to.
use Rattle.std.specs.Prelude.{◌≡◌, ◌≤◌, ℕ}
use Rattle.js_model.specs.declared.stream.State.{State}
use Rattle.js_model.specs.Lasting.{lasting}
use Rattle.crash_laws.specs.Outlasting.{HasBases}

-- All of the state to which a place was opened lasts. Its volume may hold that state alone, and each image that a crash at some moment from the beginning of
-- the opening on may have left holds it.
pub record IsOpenedAt {V Image : Type 0} (holds : Image → State → Type 0) (left : V → ℕ → Image → Type 0) (clock : V → ℕ) (is_base : State → Type 0) (began : ℕ) (state : State) (vol : V)
    : Type 0 where
  pub all_lasts : lasting state ≡ state
  pub only : (b : State) → is_base b → b ≡ state
  pub bases : HasBases holds left clock is_base vol
  pub since : (t : ℕ) (image : Image) → began ≤ t → left vol t image → holds image state
