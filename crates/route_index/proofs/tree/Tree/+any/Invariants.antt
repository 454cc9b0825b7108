use Rattle.std.specs.Option.{option_copied}
use Rattle.subject_match.specs.Tokens.{size_left}
use Rattle.route_index.proofs.tree.Tree.+any.Given as goal

abbrev pub decreases-any : goal.decreases-any
decreases-any g l = size_left (option_copied l.left)
