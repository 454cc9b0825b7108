use Rattle.route_index.proofs.Showing.{shows_none}
use Rattle.route_index.proofs.route_tree.RouteTree.new.Goals as goal

pub invariant_of-result : goal.invariant_of-result
invariant_of-result c = shows_none c.new.result c.new-2.result c.new.ensures.empty c.new-2.ensures.tree c.new-2.ensures.empty
