-- What a door's accept answers.
use Rattle.std.specs.Prelude.{ℕ, ◌+◌, List, [], ◌∷◌, Option, option_map}
use Rattle.link_edge.specs.declared.answers.Accept.{Accept}
use Rattle.link_edge.specs.declared.answers.Accept.TheVariants.{Got, Quiet, Closed, Failed, NoMemory}
use Rattle.link_edge.specs.declared.answers.Accepted.{Accepted}
use Rattle.link_edge.specs.declared.answers.Accepted.TheVariants as accepted

-- a fact of the link that was given out, if one was
abbrev pub IfGot : {L : Type 0} → Accept L → (L → Type 0) → Type 0
IfGot (Got link) P = P link
IfGot Quiet P = Unit {0}
IfGot Closed P = Unit {0}
IfGot Failed P = Unit {0}
IfGot NoMemory P = Unit {0}

-- what is remembered of the answer
abbrev pub accepted_of : {L : Type 0} → Accept L → List Accepted
accepted_of (Got link) = accepted.Got ∷ []
accepted_of Quiet = accepted.Quiet ∷ []
accepted_of Closed = accepted.Closed ∷ []
accepted_of Failed = accepted.Failed ∷ []
accepted_of NoMemory = []

-- how many links were given out, if it is known
abbrev pub gave_after : {L : Type 0} → Option ℕ → Accept L → Option ℕ
gave_after gave (Got link) = option_map (λ n. n + 1) gave
gave_after gave Quiet = gave
gave_after gave Closed = gave
gave_after gave Failed = gave
gave_after gave NoMemory = gave
