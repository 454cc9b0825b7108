-- A link in memory, as contracts see it, and what each of its calls does.
use Rattle.std.specs.Prelude.{ℕ, List, [], ◌++◌, length, take, if◌then◌else◌}
use Rattle.link_edge.specs.declared.answers.Take.{Take}
use Rattle.link_edge.specs.declared.answers.Take.TheVariants as takes
use Rattle.link_edge.specs.declared.answers.Give.{Give}
use Rattle.link_edge.specs.declared.answers.Give.TheVariants as gives
use Rattle.link_edge.specs.declared.answers.Answer.{Answer}
use Rattle.link_edge.specs.declared.script.Said.{Said}
use Rattle.link_edge.specs.Takes.{answers_of}
use Rattle.link_edge.specs.Calls.{CallState, calls_of, next_fails, with_pass, with_failure}
use Rattle.link_edge.specs.Script.{next_take, script_after}
use Rattle.link_edge.specs.Failings.{no_failings, with_call, with_failed_give, with_starved_call}
use Rattle.link_edge.specs.declared.failings.Failings.{Failings}

-- what is left of the script, the calls so far, what the takes answered, what was given, and what it counts of its failings
pub record LinkState : Type 0 where
  pub script : List Said
  pub calls : CallState
  pub answered : List Answer
  pub given : List ℕ
  pub failings : Failings

-- a link over a script, of which the calls with these numbers fail
abbrev pub link_of : List Said → List ℕ → LinkState
link_of script failing = record { script = script; calls = calls_of failing; answered = []; given = []; failings = no_failings }

-- what a take with so much room answers, if memory suffices
abbrev pub take_of : LinkState → ℕ → Take
take_of link room = if next_fails link.calls then takes.Failed else next_take link.script room

-- the link after a take that the script answered so
abbrev pub after_played : LinkState → Take → List ℕ → LinkState
after_played link take room = record link {
  script = script_after link.script (length room);
  calls = with_pass link.calls;
  answered = link.answered ++ answers_of take room;
  failings = with_call link.failings;
}

-- the link after a take that was answered so
abbrev pub after_take : LinkState → Take → List ℕ → LinkState
after_take link takes.NoMemory room = record link { failings = with_starved_call (with_call link.failings) }
after_take link takes.Failed room = record link {
  calls = with_failure link.calls;
  answered = link.answered ++ answers_of takes.Failed room;
  failings = with_call link.failings;
}
after_take link (takes.Got n) room = after_played link (takes.Got n) room
after_take link takes.Quiet room = after_played link takes.Quiet room
after_take link takes.Ended room = after_played link takes.Ended room

-- what a give of so many bytes answers, if memory suffices
abbrev pub give_of : LinkState → ℕ → Give
give_of link len = if next_fails link.calls then gives.Failed else gives.Gave len

-- the link after a give that was answered so
abbrev pub after_give : LinkState → Give → List ℕ → LinkState
after_give link gives.NoMemory bytes = record link { failings = with_starved_call (with_call link.failings) }
after_give link gives.Failed bytes = record link { calls = with_failure link.calls; failings = with_failed_give (with_call link.failings) }
after_give link (gives.Gave n) bytes =
    record link { calls = with_pass link.calls; given = link.given ++ take n bytes; failings = with_call link.failings }
