use Rattle.std.proofs.Common.{◌==◌, not, sym, ◌∙◌}
use Rattle.replayed_consumer.proofs.Popping.{dropped_ascends, none_popped, popped}
use Rattle.replayed_consumer.proofs.tables.pop_first.Goals as goal

pub returns-clause-first : goal.returns-clause-first
returns-clause-first c = rw c.ack.ensures.left (popped c.in_ok-entry.entry c.args.table.now c.requires.ascend (sym c.at_or_after.ensures.value ∙ c.in_ok-entry.was))

pub returns-clause-ascend : goal.returns-clause-ascend
returns-clause-ascend c = rw c.ack.ensures.left (dropped_ascends (λ e. not (e.seq == c.in_ok-entry.entry.seq)) c.args.table.now c.requires.ascend)

pub returns-in_err-entry-clause-none : goal.returns-in_err-entry-clause-none
returns-in_err-entry-clause-none c = λ e. none_popped c.args.table.now (sym c.at_or_after.ensures.value ∙ c.in_err-entry.was)
