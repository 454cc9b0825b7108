use Rattle.std.proofs.Common.{sym, ◌∙◌}
use Rattle.std.proofs.lemmas.Bool.{OnTrue_from}
use Rattle.log_replay.proofs.Makings.{there_if}
use Rattle.log_replay.proofs.consumers.is_there.Goals as goal

pub returns : goal.returns
returns c = record { there = OnTrue_from c.is_some.result _ (λ is. there_if c.args.name.now c.args.consumers.now c.place_of.result c.place_of.ensures.value (sym c.is_some.ensures ∙ is)) }
