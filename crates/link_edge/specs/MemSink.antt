-- A sink in memory, as contracts see it, and what a put does.
use Rattle.std.specs.Prelude.{◌≡◌, ℕ, ◌/◌, true, false, List, [], ◌++◌, ◌⊎◌, length, take}
use Rattle.link_edge.specs.declared.answers.Put.{Put}
use Rattle.link_edge.specs.declared.answers.Put.TheVariants.{Done, Failed}
use Rattle.link_edge.specs.Calls.{CallState, calls_of, next_fails, with_pass, with_failure}

-- what was written, and the puts so far
pub record SinkState : Type 0 where
  pub written : List ℕ
  pub calls : CallState

-- an empty sink, of whose puts those with these numbers fail
abbrev pub sink_of : List ℕ → SinkState
sink_of failing = record { written = []; calls = calls_of failing }

-- a sink after a put that did not fail, and after one that failed
abbrev pub after_done : SinkState → List ℕ → SinkState
after_done sink bytes = record { written = sink.written ++ bytes; calls = with_pass sink.calls }

abbrev pub after_failed : SinkState → List ℕ → SinkState
after_failed sink bytes = record { written = sink.written ++ bytes; calls = with_failure sink.calls }

-- the first half of a piece
abbrev pub half : List ℕ → List ℕ
half bytes = take (length bytes / 2) bytes

-- A put that is not to fail writes all of the piece, and one that is to fail half of it. One for which
-- memory runs out fails and writes nothing.
abbrev pub IsPut : SinkState → SinkState → Put → List ℕ → Type 0
IsPut old new Done bytes = (next_fails old.calls ≡ false) × (new ≡ after_done old bytes)
IsPut old new Failed bytes =
    ((next_fails old.calls ≡ true) × (new ≡ after_failed old (half bytes))) ⊎ (new ≡ after_failed old [])
