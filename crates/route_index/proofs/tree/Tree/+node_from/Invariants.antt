use Rattle.std.specs.Option.{option_copied}
use Rattle.subject_match.specs.Tokens.{size_left}
use Rattle.route_index.proofs.tree.Tree.+node_from.Given as goal

abbrev pub decreases-node_from : goal.decreases-node_from
decreases-node_from l = size_left (option_copied l.left)
