use Rattle.std.proofs.Common.{Bool, ◌-◌, vec_len}
use Rattle.js_base.specs.Bytes.{Bytes}
use Rattle.stored_stream.specs.Heads.{AreHeads}
use Rattle.stored_stream.proofs.Merged.{Merges}
use Rattle.stored_stream.proofs.purging.first_of_heads.Given as goal

abbrev pub invariant-loop-below : goal.invariant-loop-below
invariant-loop-below l = (test : Bytes → Bool) → AreHeads test l.stream.messages 0 l.initial.heads → Merges test l.stream.messages l.below l.most l.gone.items l.heads

abbrev pub decreases-loop-below : goal.decreases-loop-below
decreases-loop-below l = l.most - vec_len l.gone
