use Rattle.std.proofs.Common.{◌+◌, refl}
use Rattle.route_index.proofs.Ways.{adds_leads}
use Rattle.route_index.proofs.Trees.{grows_self, names_kept, branches_more}
use Rattle.route_index.proofs.tree.Tree.branch.Goals as goal

pub returns-then-next-clause-grows : goal.returns-then-next-clause-grows
returns-then-next-clause-grows c = grows_self c.args.self.now c.requires.tree

pub returns-in_err-add-clause-grows : goal.returns-in_err-add-clause-grows
returns-in_err-add-clause-grows c =
    names_kept c.args.self.now (record { branches = c.add.new.self; ids = c.args.self.now.ids; next = c.args.self.now.next }) c.requires.tree c.in_err-add.ensures.err refl refl

pub returns-clause-grows : goal.returns-clause-grows
returns-clause-grows c =
    branches_more c.args.self.now (record { branches = c.add.new.self; ids = c.args.self.now.ids; next = c.args.self.now.next + 1 }) c.args.node c.args.token.now c.requires.tree c.requires.reached c.requires.none
    c.in_ok-add.ensures.ok refl refl

pub returns-clause-node : goal.returns-clause-node
returns-clause-node c = adds_leads c.args.self.now.branches c.add.new.self c.args.node c.args.token.now c.args.self.now.next c.in_ok-add.ensures.ok
