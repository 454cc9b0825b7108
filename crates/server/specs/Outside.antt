-- What is told of the outside of a run, and what is printed.
use Rattle.std.specs.Prelude.{◌≡◌, ℕ, ◌⊎◌, List, Option, Some, None, take}
use Rattle.js_base.specs.Bytes.{Bytes}
use Rattle.link_edge.specs.Told.{grown}
use Rattle.js_base.specs.Causes.{Rose}
use Rattle.link_edge.specs.Reports.{Report}
use Rattle.link_edge.specs.declared.answers.Accepted.{Accepted}
use Rattle.link_edge.specs.declared.failings.Starved.{Starved}

-- what a door tells: what it answered, how many links it gave out, what came back, what it counts of accepts that found no memory, and how often
-- it failed
pub record DoorTold : Type 0 where
  pub answered : Option (List Accepted)
  pub gave : Option ℕ
  pub back : Option (List Report)
  pub starved : Option Starved
  pub faults : ℕ

-- what a sink tells: what was printed to it, and how often it failed
pub record SinkTold : Type 0 where
  pub written : Option Bytes
  pub faults : ℕ

-- what is told of the outside: its door, the moments to come of its clock, and its sink
pub record Outside : Type 0 where
  pub door : DoorTold
  pub clock : Option (List ℕ)
  pub sink : SinkTold

-- ---- what is printed

-- the line was printed, or a prefix of it if the sink failed
abbrev pub Prints : Bytes → SinkTold → SinkTold → Type 0
Prints line old new =
    (new.written ≡ grown old.written line) ⊎ (Rose old.faults new.faults × ((n : ℕ) × (new.written ≡ grown old.written (take n line))))

-- the line was printed, if there is one, and nothing otherwise
abbrev pub PrintsLine : Option Bytes → SinkTold → SinkTold → Type 0
PrintsLine None old new = new ≡ old
PrintsLine (Some line) old new = Prints line old new
