use Rattle.std.proofs.Common.{◌≡◌, take}
use Rattle.log_replay.proofs.restoring.window_of.Given as goal

-- those so far
abbrev pub invariant-loop-known : goal.invariant-loop-known
invariant-loop-known l = l.made ≡ record { window = l.window; ids = take l.known-index l.ids }
