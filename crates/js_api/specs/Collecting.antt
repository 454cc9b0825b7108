-- How often a session may collect.
use Rattle.std.specs.Prelude.{ℕ, ◌<◌, true, false, Result, Ok, Err}
use Rattle.js_model.specs.declared.desk.Collected.{Collected}
use Rattle.js_model.specs.declared.desk.Collected.TheVariants.{Frames, Slow}
use Rattle.js_api.specs.declared.fault.DeskFault.{DeskFault}

-- if more was left, fewer collects may follow
abbrev pub LeavesLess : Result Collected DeskFault → ℕ → ℕ → Type 0
LeavesLess (Ok (Frames list true)) before now = now < before
LeavesLess (Ok (Frames list false)) before now = Unit {0}
LeavesLess (Ok (Slow length)) before now = Unit {0}
LeavesLess (Err fault) before now = Unit {0}
