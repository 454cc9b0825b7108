-- What is left of entries of which a crash took the last ones: a beginning of them, with all that were confirmed by then.
use Rattle.std.specs.Prelude.{◌≡◌, ◌⊎◌, ◌<◌, ◌++◌, ℕ, List, [], ◌∷◌}
use Rattle.js_model.specs.declared.stream.State.{State}
use Rattle.js_model.specs.declared.entry.PlaceEntry.{PlaceEntry}
use Rattle.js_model.specs.Firm.{IsFirm}
use Rattle.js_model.specs.Lasting.{lasting}
use Rattle.js_model.specs.Runs.{RunFrom}
use Rattle.crash_laws.specs.Timed.{Timed}

-- one entry leads from old to new by the machine
abbrev pub IsEntry : State → PlaceEntry → State → Type 0
IsEntry old e new = (count : ℕ) × RunFrom count old (e ∷ []) new

-- they lead from old to new one after the other, and this holds of the moment by which each confirmed one was answered
abbrev pub Chain : (ℕ → Type 0) → State → List Timed → State → Type 0
Chain IsFine old [] new = old ≡ new
Chain IsFine old (e ∷ more) new = (mid : State) × IsEntry old e.entry mid × (IsFirm old e.entry mid → IsFine e.by) × Chain IsFine mid more new

-- at any moment
abbrev pub Ever : ℕ → Type 0
Ever by = Unit {0}

-- The first ones lead from old to mid, and the others from there to new. One of the others is confirmed only if it was answered after t.
pub record Beginning (t : ℕ) (old : State) (entries : List Timed) (new : State) : Type 0 where
  pub first : List Timed
  pub more : List Timed
  pub entries_are : entries ≡ first ++ more
  pub mid : State
  pub stays : Chain Ever old first mid
  pub lost : Chain (λ by. t < by) mid more new

-- this is what outlives a crash of the state behind a beginning
pub record IsLastingOf (t : ℕ) (old : State) (entries : List Timed) (new left : State) : Type 0 where
  pub beginning : Beginning t old entries new
  pub left_is : left ≡ lasting beginning.mid

-- it is so; or the beginning is empty, and this is one of the states that the volume may have held before
pub record IsLeftOf (t : ℕ) (is_base : State → Type 0) (old : State) (entries : List Timed) (new left : State) : Type 0 where
  pub beginning : Beginning t old entries new
  pub left_is : (left ≡ lasting beginning.mid) ⊎ ((beginning.first ≡ []) × is_base left)
