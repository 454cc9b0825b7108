use Rattle.std.proofs.Common.{sym, ◌∙◌}
use Rattle.std.proofs.lemmas.Bool.{OnTrue_from}
use Rattle.log_replay.proofs.Makings.{there_at}
use Rattle.log_replay.proofs.consumers.one_takes_due.Goals as goal

pub returns : goal.returns
returns c = record {
  there = OnTrue_from c.takes_due.result _
      (λ is. there_at c.args.name.now c.args.consumers.now _ c.in-Some.place c.index-consumers-place.result (sym c.place_of.ensures.value ∙ c.in-Some.is) c.index-consumers-place.is (sym c.takes_due.ensures.value ∙ is));
}
