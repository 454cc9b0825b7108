use Rattle.std.proofs.Common.{rules, tests}
use Rattle.std.proofs.lemmas.Iterator.{YieldsList-from_slice, YieldsList-from_map, items_from_collect}
use Rattle.std.proofs.lemmas.Iterator.Consumers.{YieldsList-at}
use Rattle.std.proofs.lemmas.Result.{IfOk-at_ok}
use Rattle.js_model.specs.declared.stream.Message.{Message}
use Rattle.durable_checks.proofs.sequences.seqs_of.Goals as goal

pub returns : goal.returns
returns c =
    record {
      value = IfOk-at_ok _ c.in_ok-collect.was
          (items_from_collect _ c.collect.ensures.ran
          (YieldsList-from_map _ (λ (m : Message). m.seq) (YieldsList-at c.map.ensures.source (YieldsList-from_slice c.args.messages.now c.iter.ensures.rest)) c.map.ensures.closure (λ x r q k. search (rules, tests))));
    }
