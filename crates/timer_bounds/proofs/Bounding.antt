-- Bounds of some timers, and of more.
use Rattle.std.proofs.Common.{◌≡◌, ℕ, ◌≤◌, Bool, List, [], ◌∷◌, ◌++◌, Option, Some, None, refl, sym, subst}
use Rattle.std.specs.Prelude.{All, filter}
use Rattle.std.proofs.lemmas.List.Elements.{All-filter, All-head, All-nil, filter-append}
use Rattle.timers.specs.Bounds.{IsTimerBound}
use Rattle.timers.specs.Timers.{later}

-- a moment that is not before the bound; without a bound there is none
abbrev pub IsFrom : Option ℕ → ℕ → Type 0
IsFrom None t = ⊥
IsFrom (Some bound) t = bound ≤ t

pub bound_of : (bound : Option ℕ) (ts : List ℕ) → All (IsFrom bound) ts → IsTimerBound ts bound
bound_of (Some bound) ts h = h
bound_of None [] h = refl
bound_of None (t ∷ ts) h = absurd (All-head (IsFrom None) t ts h)

pub each_from : (bound : Option ℕ) (ts : List ℕ) → IsTimerBound ts bound → All (IsFrom bound) ts
each_from (Some bound) ts h = h
each_from None ts h = subst (All (IsFrom None)) (sym h) (All-nil (IsFrom None))

pub no_timers : (bound : Option ℕ) → IsTimerBound [] bound
no_timers bound = bound_of bound [] (All-nil (IsFrom bound))

-- those of a list that pass a test
pub fewer_bound : (test : ℕ → Bool) (bound : Option ℕ) (ts : List ℕ) → IsTimerBound ts bound → IsTimerBound (filter test ts) bound
fewer_bound test bound ts h = bound_of bound (filter test ts) (All-filter test (IsFrom bound) ts (each_from bound ts h))

pub later_append : (now : ℕ) (ts us : List ℕ) → later now ts ++ later now us ≡ later now (ts ++ us)
later_append now ts us = sym (filter-append _ ts us)
