-- The clock of the system, as contracts see it, and what it gives.
use Rattle.std.specs.Prelude.{◌≡◌, ◌≤◌, ℕ, ◌⊎◌}
use Rattle.js_base.specs.Causes.{raised}

-- the moment that was given last, and how often the system gave none
pub record ClockState : Type 0 where
  pub last : ℕ
  pub faults : ℕ

-- a moment that is not before the last one, which the system told; or it told none, which is counted, and the last one stays
abbrev pub Tells : ClockState → ℕ → ClockState → Type 0
Tells old moment new =
    ((old.last ≤ moment) × (new ≡ record old { last = moment })) ⊎ ((moment ≡ old.last) × (new ≡ record old { faults = raised old.faults }))
