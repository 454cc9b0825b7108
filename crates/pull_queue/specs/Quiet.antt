-- Until when passing time does nothing to waiting pulls.
use Rattle.std.specs.Prelude.{◌≡◌, ℕ, nat_le, Bool, false, ◌||◌, List, All, Option, Some, None}
use Rattle.js_model.specs.declared.consumer.Pull.{Pull}
use Rattle.js_model.specs.Advance.{is_over, pull_comes}

-- the pull ends, or a heartbeat comes for it
abbrev pub is_due : ℕ → Pull → Bool
is_due now p = is_over now p || pull_comes now p

-- there is such a moment, and it has come
abbrev pub is_reached : ℕ → Option ℕ → Bool
is_reached now None = false
is_reached now (Some at) = nat_le at now

-- before the moment no pull is due; without one, none ever is
pub record IsQuietUntil (next : Option ℕ) (pulls : List Pull) : Type 0 where
  pub none_due : (now : ℕ) → is_reached now next ≡ false → All (λ p. is_due now p ≡ false) pulls
