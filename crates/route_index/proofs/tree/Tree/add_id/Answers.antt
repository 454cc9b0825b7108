use Rattle.route_index.proofs.Trees.{keeps_both}
use Rattle.route_index.proofs.tree.Tree.add_id.Goals as goal

pub prune-requires : goal.prune-requires
prune-requires c = record { tree = c.in-Err.ensures.err.tree }

pub returns-in-Err-clause-err : goal.returns-in-Err-clause-err
returns-in-Err-clause-err c = keeps_both c.args.self.now c.put.new.self c.prune.new.self c.in-Err.ensures.err c.prune.ensures.keeps
