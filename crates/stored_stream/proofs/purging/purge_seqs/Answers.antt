use Rattle.std.proofs.Common.{◌∙◌}
use Rattle.std.proofs.lemmas.Result.{IfOk-weaker}
use Rattle.stored_stream.proofs.Purges.{purged}
use Rattle.stored_stream.proofs.purging.purge_seqs.Goals as goal

pub returns : goal.returns
returns c =
    record {
      value = IfOk-weaker c.first_named.result _ _
          (λ gone e. e ∙ purged c.args.stream.now c.args.pattern.now c.args.below c.of-selector.result c.of-selector.ensures.value c.args.keep c.in_ok-count.count c.in_ok-count.ensures.value)
          c.first_named.ensures.value;
    }
