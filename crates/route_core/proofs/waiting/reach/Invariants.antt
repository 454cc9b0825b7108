use Rattle.std.proofs.Common.{◌≡◌, drop}
use Rattle.route_core.proofs.Lengths.{Reaching}
use Rattle.route_core.proofs.waiting.reach.Given as goal

-- so many frames are taken, and the iterator has the others
abbrev pub invariant-loop-frame : goal.invariant-loop-frame
invariant-loop-frame l = record {
  rest : l.frame-iterator ≡ drop l.count l.frames;
  reaching : Reaching l.max l.frames l.count l.room;
}
