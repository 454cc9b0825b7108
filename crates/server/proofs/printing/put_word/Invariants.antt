use Rattle.std.proofs.Common.{◌≡◌, length, map, take}
use Rattle.server.specs.Lines.{shown_byte}
use Rattle.server.proofs.printing.put_word.Given as goal

-- the bytes before are shown
abbrev pub invariant-loop-at : goal.invariant-loop-at
invariant-loop-at g l = record { shown : take l.at l.shown ≡ map shown_byte (take l.at l.word); size : length l.shown ≡ 64 }
