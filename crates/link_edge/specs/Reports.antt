-- What is known of the links that a door gave out and took back.
use Rattle.std.specs.Prelude.{◌≡◌, ℕ, ◌<◌, ◌≤◌, List, length, Option, IfSome}
use Rattle.link_edge.specs.declared.answers.Answer.{Answer}
use Rattle.link_edge.specs.Told.{emptied}
use Rattle.link_edge.specs.Failings.{HasNoFailings}
use Rattle.link_edge.specs.declared.failings.Failings.{Failings}

-- what is known of a link that came back
pub record Report : Type 0 where
  pub answered : Option (List Answer)
  pub given : Option (List ℕ)
  pub failings : Option Failings
  pub faults : ℕ

-- if both are known, fewer links came back than were given out
abbrev pub HasOut : Option ℕ → Option (List Report) → Type 0
HasOut gave back = IfSome gave (λ n. IfSome back (λ reports. length reports < n))

-- if both are known, no more links came back than were given out
abbrev pub IsBalanced : Option ℕ → Option (List Report) → Type 0
IsBalanced gave back = IfSome gave (λ n. IfSome back (λ reports. length reports ≤ n))

-- if it is known, nothing was answered and nothing given, nothing failed, and no fault is counted
pub record IsFresh (answered : Option (List Answer)) (given : Option (List ℕ)) (failings : Option Failings) (faults : ℕ) : Type 0 where
  pub silent : answered ≡ emptied answered
  pub unwritten : given ≡ emptied given
  pub unfailing : HasNoFailings failings
  pub unfailed : faults ≡ 0
