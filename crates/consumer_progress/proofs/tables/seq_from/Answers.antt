use Rattle.std.proofs.Common.{ap, sym, ◌∙◌}
use Rattle.std.specs.Option.{option_map}
use Rattle.js_model.specs.declared.consumer.Pending.{Pending}
use Rattle.consumer_progress.proofs.Seqs.{found_from}
use Rattle.consumer_progress.proofs.tables.seq_from.Goals as goal

pub returns-in_err-entry : goal.returns-in_err-entry
returns-in_err-entry c =
    record { value = c.from_residual.ensures ∙ ap (option_map (λ (p : Pending). p.seq)) (sym c.in_err-entry.was ∙ c.at_or_after.ensures.value) ∙ found_from c.args.seq c.args.table.now }

pub returns : goal.returns
returns c = record { value = ap (option_map (λ (p : Pending). p.seq)) (sym c.in_ok-entry.was ∙ c.at_or_after.ensures.value) ∙ found_from c.args.seq c.args.table.now }
