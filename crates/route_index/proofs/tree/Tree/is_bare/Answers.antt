use Rattle.route_index.proofs.Changes.{bare_by}
use Rattle.route_index.proofs.tree.Tree.is_bare.Goals as goal

pub returns-then-has_none_at : goal.returns-then-has_none_at
returns-then-has_none_at c = record { bare = bare_by c.args.self.now.branches c.args.self.now.ids c.args.node c.count_of.result c.if-has_none_at.ensures.empty c.count_of.ensures.value }
