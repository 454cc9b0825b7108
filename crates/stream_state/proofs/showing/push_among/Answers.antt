use Rattle.std.proofs.Common.{rules, tests}
use Rattle.std.proofs.lemmas.Iterator.{YieldsList-from_slice}
use Rattle.std.proofs.lemmas.Iterator.Consumers.{nth_from_yields_List, YieldsList-from_filter}
use Rattle.js_model.specs.Streams.{is_push}
use Rattle.followed_stream.specs.Followers.{Following}
use Rattle.stream_state.proofs.showing.push_among.Goals as goal

pub returns : goal.returns
returns c = record {
  value = nth_from_yields_List _ _ c.args.at c.nth.ensures.ran
      (YieldsList-from_filter _ (λ (f : Following). is_push f.consumer) (YieldsList-from_slice c.args.followers.now cc) c.filter.ensures.closure (λ x b q k. search (rules, tests)));
}
