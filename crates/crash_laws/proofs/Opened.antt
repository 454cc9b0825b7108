-- What a crash may leave of what was made at a place since it was opened.
use Rattle.std.proofs.Common.{⊎_elim, ℕ, ◌≤◌, List, sym, ◌∙◌}
use Rattle.js_model.specs.declared.stream.State.{State}
use Rattle.crash_laws.specs.Timed.{Timed}
use Rattle.crash_laws.specs.Beginnings.{IsLastingOf, IsLeftOf}
use Rattle.crash_laws.specs.Opened.{IsOpenedAt}
use Rattle.crash_laws.specs.Outlasting.{Outlasts}
use Rattle.crash_laws.proofs.Beginnings.{all_lost, none_left, nothing_stands}

module _ {V Image : Type 0} (holds : Image → State → Type 0) (left : V → ℕ → Image → Type 0) (clock : V → ℕ) (was_base is_base : State → Type 0) where
  pub law_opened : (began : ℕ) (entries : List Timed) (old new : State) (v w : V) → IsOpenedAt holds left clock was_base began old v → Outlasts holds left clock was_base is_base entries old new v w
      → (t : ℕ) (image : Image) → began ≤ t → left w t image → (l : State) × holds image l × IsLastingOf t old entries new l
  law_opened began entries old new v w start outlasts t image since is_left =
      let whole = outlasts start.bases in
      ⊎_elim
      (λ before. (
        old,
        start.since t image since before.1,
        record { beginning = none_left t old entries new (all_lost t (clock v) (clock w) before.0 entries old new whole.between whole.led); left_is = sym start.all_lasts },
      ))
      (λ l. (l.0, l.1, lasts l.0 l.2))
      (whole.crash t image is_left)
    where
      -- a state that the volume may have held before is the one to which it was opened
      lasts : (l : State) → IsLeftOf t was_base old entries new l → IsLastingOf t old entries new l
      lasts l is = ⊎_elim
          (λ e. record { beginning = is.beginning; left_is = e })
          (λ e. record { beginning = none_left t old entries new (nothing_stands t old entries new is.beginning e.0); left_is = start.only l e.1 ∙ sym start.all_lasts })
          is.left_is
