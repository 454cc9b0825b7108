use Rattle.route_index.proofs.Trees.{grows_self}
use Rattle.route_index.proofs.tree.Tree.step_or_branch.Goals as goal

pub returns-in-Some-clause-grows : goal.returns-in-Some-clause-grows
returns-in-Some-clause-grows c = grows_self c.args.self.now c.requires.tree
