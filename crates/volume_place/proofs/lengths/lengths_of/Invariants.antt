use Rattle.std.proofs.Common.{take}
use Rattle.volume_place.specs.Measured.{HaveLengths}
use Rattle.volume_place.proofs.lengths.lengths_of.Given as goal

abbrev pub invariant-loop-effect : goal.invariant-loop-effect
invariant-loop-effect l = HaveLengths (take l.effect-index l.records) l.lengths
