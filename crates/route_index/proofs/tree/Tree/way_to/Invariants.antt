use Rattle.std.specs.Option.{option_copied}
use Rattle.subject_match.specs.Tokens.{size_left}
use Rattle.route_index.proofs.Trees.{IsOnWay}
use Rattle.route_index.proofs.tree.Tree.way_to.Given as goal

abbrev pub invariant-loop-left : goal.invariant-loop-left
invariant-loop-left l = IsOnWay l.initial.self l.self l.text (option_copied l.left) l.node

abbrev pub decreases-loop-left : goal.decreases-loop-left
decreases-loop-left l = size_left (option_copied l.left)
