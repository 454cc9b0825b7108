use Rattle.std.proofs.Common.{◌≡◌, length}
use Rattle.js_model.specs.Configs.{same_texts}
use Rattle.memory_place.proofs.sameness.same_texts.Given as goal

-- the texts that are left are the same if all are
abbrev pub invariant-loop-text : goal.invariant-loop-text
invariant-loop-text l = same_texts l.texts l.others ≡ same_texts l.fn.texts l.fn.others

abbrev pub decreases-loop-text : goal.decreases-loop-text
decreases-loop-text l = length l.texts
