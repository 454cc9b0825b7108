use Rattle.std.proofs.lemmas.Bool.{and_parts}
use Rattle.volume_tests.proofs.kept.Kept.step.Goals as goal

pub prepare-requires : goal.prepare-requires
prepare-requires c = record { proper = (and_parts _ _ c.requires.proper).1 }
