-- A door in memory, as contracts see it, and what each of its calls does.
use Rattle.std.specs.Prelude.{ℕ, Bool, true, false, nat_lt, length, ◌+◌, List, [], ◌∷◌, ◌++◌, Some, if◌then◌else◌}
use Rattle.link_edge.specs.declared.answers.Accept.{Accept}
use Rattle.link_edge.specs.declared.answers.Accept.TheVariants as accepts
use Rattle.link_edge.specs.declared.answers.Accepted.{Accepted}
use Rattle.link_edge.specs.declared.answers.Accepted.TheVariants as accepted
use Rattle.link_edge.specs.declared.mem_door.Knock.{Knock}
use Rattle.link_edge.specs.declared.mem_door.Knock.TheVariants as knocks
use Rattle.link_edge.specs.Reports.{Report}
use Rattle.link_edge.specs.Calls.{CallState, calls_of, next_fails, with_pass, with_failure}
use Rattle.link_edge.specs.MemLink.{LinkState, link_of}
use Rattle.link_edge.specs.Failings.{none_starved, with_accept, with_starved_accept}
use Rattle.link_edge.specs.declared.failings.Starved.{Starved}

-- who is still to knock, the accepts and their answers, how many links were given out, which came back, and what it counts of accepts that found
-- no memory
pub record DoorState : Type 0 where
  pub knocks : List Knock
  pub calls : CallState
  pub answered : List Accepted
  pub gave : ℕ
  pub back : List LinkState
  pub starved : Starved

-- a door with a script, of whose accepts those with these numbers fail
abbrev pub door_of : List Knock → List ℕ → DoorState
door_of knocks failing =
    record { knocks = knocks; calls = calls_of failing; answered = []; gave = 0; back = []; starved = none_starved }

-- whether it is a link that comes
abbrev pub is_link : Knock → Bool
is_link (knocks.Link script failing) = true
is_link knocks.Quiet = false

-- what is known of a link that came back
abbrev pub report_of : LinkState → Report
report_of link = record { answered = Some link.answered; given = Some link.given; failings = Some link.failings; faults = link.calls.failed }

-- what the script answers next
abbrev pub next_accept : List Knock → Accept LinkState
next_accept [] = accepts.Closed
next_accept (knocks.Quiet ∷ more) = accepts.Quiet
next_accept (knocks.Link script failing ∷ more) = accepts.Got (link_of script failing)

-- what an accept answers, if memory suffices
abbrev pub accept_of : DoorState → Accept LinkState
accept_of door = if next_fails door.calls then accepts.Failed else next_accept door.knocks

-- the script after that
abbrev pub knocks_after : List Knock → List Knock
knocks_after [] = []
knocks_after (knock ∷ more) = more

-- the door after the script's next answer
abbrev pub after_knock : DoorState → Accepted → DoorState
after_knock door answer = record door {
  knocks = knocks_after door.knocks;
  calls = with_pass door.calls;
  answered = door.answered ++ answer ∷ [];
  starved = with_accept door.starved;
}

-- the door after an accept that was answered so
abbrev pub after_accept : DoorState → Accept LinkState → DoorState
after_accept door accepts.NoMemory = record door { starved = with_starved_accept (with_accept door.starved) }
after_accept door accepts.Failed = record door {
  calls = with_failure door.calls;
  answered = door.answered ++ accepted.Failed ∷ [];
  starved = with_accept door.starved;
}
after_accept door (accepts.Got link) =
    record (after_knock door accepted.Got) { gave = door.gave + 1 }
after_accept door accepts.Quiet = after_knock door accepted.Quiet
after_accept door accepts.Closed = after_knock door accepted.Closed

-- the door after a link came back: it is kept, unless as many came back as were given out
abbrev pub after_done : DoorState → LinkState → DoorState
after_done door link = if nat_lt (length door.back) door.gave then record door { back = door.back ++ link ∷ [] } else door
