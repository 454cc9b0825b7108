-- What a run accepts at its door.
use Rattle.std.specs.Prelude.{◌≡◌, ℕ, ◌<◌, List, [], ◌∷◌, ◌++◌, Option, option_map, replicate}
use Rattle.link_edge.specs.Told.{grown}
use Rattle.link_edge.specs.Failings.{HasNoneStarved, with_starved_accept}
use Rattle.link_edge.specs.declared.answers.Accept.{Accept}
use Rattle.link_edge.specs.declared.answers.Accept.TheVariants as accepts
use Rattle.link_edge.specs.declared.answers.Accepted.{Accepted}
use Rattle.link_edge.specs.declared.answers.Accepted.TheVariants as accepted
use Rattle.link_edge.specs.declared.failings.Starved.{Starved}

-- fewer than a million accepts were quiet, and then this was answered
pub record IsAccepted (old new : Option (List Accepted)) (last : List Accepted) : Type 0 where
  pub quiets : ℕ
  pub few : quiets < 1000000
  pub answered : new ≡ grown old (replicate quiets accepted.Quiet ++ last)

-- a million accepts were quiet
pub record IsQuiet (old new : Option (List Accepted)) : Type 0 where
  pub quiets : ℕ
  pub many : quiets ≡ 1000000
  pub answered : new ≡ grown old (replicate quiets accepted.Quiet)

-- the door's first answer that is not quiet, or quiet if a million were
abbrev pub Arrives : {L : Type 0} → Accept L → Option (List Accepted) → Option (List Accepted) → Type 0
Arrives (accepts.Got link) old new = IsAccepted old new (accepted.Got ∷ [])
Arrives accepts.Quiet old new = IsQuiet old new
Arrives accepts.Closed old new = IsAccepted old new (accepted.Closed ∷ [])
Arrives accepts.Failed old new = IsAccepted old new (accepted.Failed ∷ [])
Arrives accepts.NoMemory old new = IsAccepted old new []

-- if memory sufficed for each accept before, it did for these
abbrev pub NoneStarves : Option Starved → Option Starved → Type 0
NoneStarves old new = HasNoneStarved old → new ≡ old

-- if memory sufficed for each accept before, it did not for one of these, and no accept came after that one
abbrev pub OneStarves : Option Starved → Option Starved → Type 0
OneStarves old new = HasNoneStarved old → new ≡ option_map with_starved_accept old

-- what the door counts of them, if that was the last answer
abbrev pub Starves : {L : Type 0} → Accept L → Option Starved → Option Starved → Type 0
Starves (accepts.Got link) old new = NoneStarves old new
Starves accepts.Quiet old new = NoneStarves old new
Starves accepts.Closed old new = NoneStarves old new
Starves accepts.Failed old new = NoneStarves old new
Starves accepts.NoMemory old new = OneStarves old new
