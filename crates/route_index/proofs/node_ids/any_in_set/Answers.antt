use Rattle.std.proofs.Common.{rules, tests}
use Rattle.std.proofs.lemmas.Iterator.Consumers.{YieldsList-from_rest}
use Rattle.std.proofs.lemmas.Iterator.Search.{any_from_yields_List}
use Rattle.route_index.proofs.node_ids.any_in_set.Goals as goal

pub returns : goal.returns
returns g c = record { value = any_from_yields_List (g.T.Test.passes c.args.test.now) _ _ _ c.any.ensures.ran (YieldsList-from_rest c.args.set.now.keys cc) (λ x b q k. search (rules, tests)) }
