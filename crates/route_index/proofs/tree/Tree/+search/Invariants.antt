use Rattle.std.specs.Option.{option_copied}
use Rattle.subject_match.specs.Tokens.{size_left}
use Rattle.route_index.proofs.tree.Tree.+search.Given as goal

abbrev pub decreases-search : goal.decreases-search
decreases-search l = size_left (option_copied l.left)
