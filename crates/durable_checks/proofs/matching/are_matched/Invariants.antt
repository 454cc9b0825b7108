use Rattle.std.proofs.Common.{◌≡◌, true, take}
use Rattle.model_laws.specs.SoundTests.{are_matched}
use Rattle.durable_checks.proofs.matching.are_matched.Given as goal

abbrev pub invariant-loop-message : goal.invariant-loop-message
invariant-loop-message l = are_matched (take l.message-index l.messages) l.filter l.seqs ≡ true
