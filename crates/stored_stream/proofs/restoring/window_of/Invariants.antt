use Rattle.std.proofs.Common.{◌≡◌, take}
use Rattle.stored_stream.proofs.restoring.window_of.Given as goal

-- the ids so far
abbrev pub invariant-loop-id : goal.invariant-loop-id
invariant-loop-id l = l.ids ≡ record { window = l.window; ids = take l.id-index l.kept }
