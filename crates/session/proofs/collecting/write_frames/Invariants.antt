use Rattle.std.proofs.Common.{◌≡◌, ◌++◌, drop}
use Rattle.session.specs.Gathering.{frames}
use Rattle.session.proofs.collecting.write_frames.Given as goal

-- the bytes so far, and those of the frames that are left, are the bytes of all
abbrev pub invariant-loop-frame : goal.invariant-loop-frame
invariant-loop-frame l = l.into.items ++ frames (drop l.frame-index l.list) ≡ l.fn.into.items ++ frames l.list
