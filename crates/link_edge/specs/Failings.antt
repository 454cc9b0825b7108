-- What a link tells of its failings, and what a door tells: how often a call failed or found no memory, and how many calls came after the first of
-- these. So a link or a door that is asked again after a failing shows it.
use Rattle.std.specs.Prelude.{◌≡◌, ◌==◌, ◌&&◌, Option, option_map, if◌then◌else◌}
use Rattle.js_base.specs.Causes.{raised}
use Rattle.link_edge.specs.declared.answers.Take.{Take}
use Rattle.link_edge.specs.declared.answers.Take.TheVariants as takes
use Rattle.link_edge.specs.declared.answers.Give.{Give}
use Rattle.link_edge.specs.declared.answers.Give.TheVariants as gives
use Rattle.link_edge.specs.declared.answers.Accept.{Accept}
use Rattle.link_edge.specs.declared.answers.Accept.TheVariants as accepts
use Rattle.link_edge.specs.declared.failings.Failings.{Failings}
use Rattle.link_edge.specs.declared.failings.Starved.{Starved}

-- ---- a link

-- no give failed, and no call found no memory
abbrev pub no_failings : Failings
no_failings = record { gives = 0; starved = 0; later = 0 }

-- a call was made, which is counted if one failed or found no memory before
abbrev pub with_call : Failings → Failings
with_call failings = if (failings.gives == 0) && (failings.starved == 0) then failings else record failings { later = raised failings.later }

-- one give more failed
abbrev pub with_failed_give : Failings → Failings
with_failed_give failings = record failings { gives = raised failings.gives }

-- one call more found no memory
abbrev pub with_starved_call : Failings → Failings
with_starved_call failings = record failings { starved = raised failings.starved }

-- after a take that was answered so
abbrev pub after_take : Take → Option Failings → Option Failings
after_take (takes.Got n) failings = option_map with_call failings
after_take takes.Quiet failings = option_map with_call failings
after_take takes.Ended failings = option_map with_call failings
after_take takes.Failed failings = option_map with_call failings
after_take takes.NoMemory failings = option_map (λ f. with_starved_call (with_call f)) failings

-- after a give that was answered so
abbrev pub after_give : Give → Option Failings → Option Failings
after_give (gives.Gave n) failings = option_map with_call failings
after_give gives.Failed failings = option_map (λ f. with_failed_give (with_call f)) failings
after_give gives.NoMemory failings = option_map (λ f. with_starved_call (with_call f)) failings

-- if it is known, no give failed, and no call found no memory
abbrev pub HasNoFailings : Option Failings → Type 0
HasNoFailings failings = failings ≡ option_map (λ _. no_failings) failings

-- ---- a door

-- no accept found no memory
abbrev pub none_starved : Starved
none_starved = record { accepts = 0; later = 0 }

-- an accept was made, which is counted if one found no memory before
abbrev pub with_accept : Starved → Starved
with_accept starved = if starved.accepts == 0 then starved else record starved { later = raised starved.later }

-- one accept more found no memory
abbrev pub with_starved_accept : Starved → Starved
with_starved_accept starved = record starved { accepts = raised starved.accepts }

-- after an accept that was answered so
abbrev pub after_accept : {L : Type 0} → Accept L → Option Starved → Option Starved
after_accept (accepts.Got link) starved = option_map with_accept starved
after_accept accepts.Quiet starved = option_map with_accept starved
after_accept accepts.Closed starved = option_map with_accept starved
after_accept accepts.Failed starved = option_map with_accept starved
after_accept accepts.NoMemory starved = option_map (λ s. with_starved_accept (with_accept s)) starved

-- if it is known, no accept found no memory
abbrev pub HasNoneStarved : Option Starved → Type 0
HasNoneStarved starved = starved ≡ option_map (λ _. none_starved) starved
