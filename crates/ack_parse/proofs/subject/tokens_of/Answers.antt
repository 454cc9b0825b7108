use Rattle.std.proofs.Common.{rules, tests, ◌==◌}
use Rattle.std.proofs.lemmas.Iterator.Consumers.{map_from_collect}
use Rattle.std.proofs.lemmas.Iterator.Splits.{YieldsList-from_slice_split}
use Rattle.ack_parse.proofs.subject.tokens_of.Goals as goal

pub returns : goal.returns
returns c = record {
  value = map_from_collect _ c.collect.ensures.ran
      (YieldsList-from_slice_split _ (λ byte. byte == 46) c.args.subject.now c.split.ensures.rest c.split.ensures.done c.split.ensures.closure (λ x b q k. search (rules, tests)));
}
