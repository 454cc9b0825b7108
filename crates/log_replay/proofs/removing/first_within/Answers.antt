use Rattle.std.proofs.Common.{sym, ap, ◌∙◌}
use Rattle.std.specs.Option.{option_copied}
use Rattle.log_replay.proofs.Ranges.{range_empty, range_first, range_past}
use Rattle.log_replay.proofs.removing.first_within.Goals as goal

pub returns-in_err-seq : goal.returns-in_err-seq
returns-in_err-seq c = record { value = c.from_residual.ensures ∙ range_empty c.args.low c.args.high c.args.messages.now (sym c.at_or_after.ensures.value ∙ ap option_copied c.in_err-seq.was) }

pub returns-then-seq-high : goal.returns-then-seq-high
returns-then-seq-high c = record { value = range_first c.args.low c.args.high c.args.messages.now c.in_ok-seq.field-0.now (sym c.at_or_after.ensures.value ∙ ap option_copied c.in_ok-seq.was) c.if-seq-high.true }

pub returns-else-seq-high : goal.returns-else-seq-high
returns-else-seq-high c = record { value = range_past c.args.low c.args.high c.requires.ascend.0 c.args.messages.now c.in_ok-seq.field-0.now c.requires.ascend.1 (sym c.at_or_after.ensures.value ∙ ap option_copied c.in_ok-seq.was) c.if-seq-high.false }
