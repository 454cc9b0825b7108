use Rattle.std.proofs.Common.{refl}
use Rattle.route_index.proofs.Trees.{tree_empty, nothing_held}
use Rattle.route_index.proofs.tree.Tree.new.Goals as goal

pub returns : goal.returns
returns c = record {
  tree = tree_empty (record { branches = c.new.result; ids = c.new-2.result; next = 1 }) c.new.ensures.empty c.new-2.ensures.empty refl;
  empty = nothing_held (record { branches = c.new.result; ids = c.new-2.result; next = 1 }) c.new.ensures.empty c.new-2.ensures.empty refl;
}
