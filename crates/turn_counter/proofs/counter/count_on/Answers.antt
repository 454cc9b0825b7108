use Rattle.std.proofs.Common.{◌++◌, ◌∙◌, List, ap}
use Rattle.histories.specs.Entries.{Entry}
use Rattle.histories.specs.Fronts.{own}
use Rattle.turn_lock.specs.Calls.{added}
use Rattle.turn_counter.specs.Counting.{counting_by}
use Rattle.turn_counter.proofs.Tally.{counts_on}
use Rattle.turn_counter.proofs.counter.count_on.Goals as goal

pub returns : goal.returns
returns g c = let k = c.in-Ok.ensures.comes in let s = c.in-Ok.held.seat in let entries = c.of-entries.ensures.value in
    record {
      counted = counts_on c.args.seat s c.leave-2.result (counting_by c.number.result.value) k.lock k.numbers k.grows (c.leave-2.ensures.added ∙ ap (added s) entries)
          (c.leave-2.ensures.own ∙ ap (λ (es : List Entry). own s.numbers s.front ++ es) entries);
    }
