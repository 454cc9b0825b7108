use Rattle.std.proofs.Common.{◌≡◌, ◌++◌, map, take, drop}
use Rattle.js_model.specs.Acknowledge.{moved}
use Rattle.record_fold.proofs.entries.set_due.Given as goal

-- so many entries are as they should be
abbrev pub invariant-loop-entry : goal.invariant-loop-entry
invariant-loop-entry l = l.entries ≡ map (moved l.seq l.due) (take l.entry-index l.initial.entries) ++ drop l.entry-index l.initial.entries
