use Rattle.std.specs.Option.{option_copied}
use Rattle.subject_match.specs.Tokens.{size_left}
use Rattle.route_index.proofs.tree.Tree.+prune.Given as goal

abbrev pub decreases-prune : goal.decreases-prune
decreases-prune l = size_left (option_copied l.left)
