use Rattle.std.proofs.Common.{refl}
use Rattle.route_index.specs.Names.{number_of}
use Rattle.route_index.proofs.Changes.{nothing_behind}
use Rattle.route_index.proofs.Trees.{branches_less}
use Rattle.route_index.proofs.tree.Tree.cut.Goals as goal

pub returns : goal.returns
returns c =
    let old = c.args.self.now in
    record {
      keeps = branches_less old (record { branches = c.cut.new.self; ids = old.ids; next = old.next }) c.args.node c.args.token.now c.requires.tree c.cut.ensures.cut refl refl
          (nothing_behind old.branches old.ids (number_of old.branches c.args.node c.args.token.now) c.requires.bare);
    }
