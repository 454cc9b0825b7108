use Rattle.std.proofs.Common.{◌≡◌, length}
use Rattle.dedup_window.specs.Window.{remembered}
use Rattle.dedup_window.proofs.window.DedupWindow.expire.Given as goal

abbrev pub invariant-loop-now : goal.invariant-loop-now
invariant-loop-now l = record {
  window : l.self.window ≡ l.initial.self.window;
  remembered : remembered l.self l.now ≡ remembered l.initial.self l.now;
}

abbrev pub decreases-loop-now : goal.decreases-loop-now
decreases-loop-now l = length l.self.ids
