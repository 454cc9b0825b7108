use Rattle.std.proofs.Common.{◌-◌}
use Rattle.js_base.specs.Bytes.{has}
use Rattle.js_model.specs.Streams.{seqs}
use Rattle.consumer_state.proofs.Rests.{IsSearched}
use Rattle.consumer_state.proofs.consumer.Consumer.has_stored_pick.Given as goal

-- no pick so far is stored
abbrev pub invariant-loop-from : goal.invariant-loop-from
invariant-loop-from g l = IsSearched (λ n. n) (has (seqs (g.W.View.stream l.stream).messages)) l.self.picks l.from

abbrev pub decreases-loop-from : goal.decreases-loop-from
decreases-loop-from g l = l.cursor - l.from
