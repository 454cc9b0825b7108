use Rattle.std.proofs.Common.{rules}
use Rattle.std.proofs.lemmas.Iterator.{YieldsList-from_map, YieldsList-from_slice}
use Rattle.std.proofs.lemmas.Iterator.Consumers.{sum_by_from_yields_List}
use Rattle.js_model.specs.declared.reply.StreamInfo.{StreamInfo}
use borrow.Author.Tests.{tests}
use Rattle.desk_answers.proofs.account.all_bytes.Goals as goal

pub returns : goal.returns
returns c = record {
  value = sum_by_from_yields_List (λ (i : StreamInfo). i.bytes) c.args.infos.now c.map.result _ c.sum.ensures.ran
      (YieldsList-from_map _ (λ (i : StreamInfo). i.bytes) (YieldsList-from_slice c.args.infos.now (cc)) c.map.ensures.closure (λ x r q k. search (rules, tests)));
}
