use Rattle.std.proofs.Common.{ap}
use Rattle.std.specs.Option.{option_copied}
use Rattle.route_index.proofs.Trees.{grows_both, way_begins, way_goes_on, way_ends, reached_by}
use Rattle.route_index.proofs.tree.Tree.way_to.Goals as goal

pub loop-left-init : goal.loop-left-init
loop-left-init c = way_begins c.args.self.now c.args.text.now c.requires.tree

pub step_or_branch-requires : goal.step_or_branch-requires
step_or_branch-requires c = record {
  tree = c.loop-left.invariant.grows.keeps.tree;
  reached = reached_by c.args.self.now c.loop-left.self c.args.text.now (option_copied c.loop-left.left) c.loop-left.node c.loop-left.invariant;
}

pub returns-in_err-node-clause-grows : goal.returns-in_err-node-clause-grows
returns-in_err-node-clause-grows c = grows_both c.args.self.now c.loop-left.self c.step_or_branch.new.self c.loop-left.invariant.grows c.step_or_branch.ensures.grows

pub loop-left-preserved : goal.loop-left-preserved
loop-left-preserved c =
    way_goes_on c.args.self.now c.loop-left.self c.step_or_branch.new.self c.args.text.now (option_copied c.loop-left.left) c.in-Some.text.now c.split_token.result.0.now
    (option_copied c.split_token.result.1) c.loop-left.node _ (ap option_copied c.in-Some.is) c.loop-left.invariant c.split_token.ensures.tokens
    c.step_or_branch.ensures.grows c.in_ok-node.ensures.node

pub returns-clause-grows : goal.returns-clause-grows
returns-clause-grows c = c.loop-left.invariant.grows

pub returns-clause-way : goal.returns-clause-way
returns-clause-way c =
    way_ends c.args.self.now c.loop-left.self c.args.text.now (option_copied c.loop-left.left) c.loop-left.node (ap option_copied c.in_default.is) c.loop-left.invariant
