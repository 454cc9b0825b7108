use Rattle.std.proofs.Common.{rules, of_calls, sym}
use Rattle.std.proofs.lemmas.Fn.{always_returns_same}
use Rattle.followed_stream.proofs.Searching.{before, before_parts, point_is}
use Rattle.followed_stream.proofs.follower.place_before.Goals as goal

pub returns-clause-value : goal.returns-clause-value
returns-clause-value c =
    let name = c.args.name.now in
    let fs = c.args.followers.now in
    let point = c.partition_point.ensures.partitioned (before name) (always_returns_same _ _ _ (λ a r f k. search (rules, of_calls))) (before_parts name fs c.requires.ordered) in
    sym (point_is name fs c.partition_point.result c.partition_point.ensures.bound point)
