-- Laws of the first call of a link, and of the first accept of a door, that failed or found no memory.
use Rattle.std.proofs.Common.{◌≡◌, Option, None, Some, option_map, refl, sym, subst}
use Rattle.link_edge.specs.Failings.{HasNoFailings, HasNoneStarved, with_call, with_accept}
use Rattle.link_edge.specs.declared.failings.Failings.{Failings}
use Rattle.link_edge.specs.declared.failings.Starved.{Starved}

-- a call that comes after no failing is not counted
pub first_call : (known : Option Failings) → HasNoFailings known → option_map with_call known ≡ known
first_call None h = refl
first_call (Some failings) h = subst (λ (o : Option Failings). option_map with_call o ≡ o) (sym h) refl

-- nor is the first one that fails, but for its failing
pub first_failing : (failed : Failings → Failings) (known : Option Failings) → HasNoFailings known
    → option_map (λ f. failed (with_call f)) known ≡ option_map failed known
first_failing failed None h = refl
first_failing failed (Some failings) h =
    subst (λ (o : Option Failings). option_map (λ f. failed (with_call f)) o ≡ option_map failed o) (sym h) refl

-- an accept that comes after none that found no memory is not counted
pub first_accept : (known : Option Starved) → HasNoneStarved known → option_map with_accept known ≡ known
first_accept None h = refl
first_accept (Some starved) h = subst (λ (o : Option Starved). option_map with_accept o ≡ o) (sym h) refl

-- nor is the first one that finds none, but for that
pub first_starved : (failed : Starved → Starved) (known : Option Starved) → HasNoneStarved known
    → option_map (λ s. failed (with_accept s)) known ≡ option_map failed known
first_starved failed None h = refl
first_starved failed (Some starved) h =
    subst (λ (o : Option Starved). option_map (λ s. failed (with_accept s)) o ≡ option_map failed o) (sym h) refl
