use Rattle.js_base.specs.Subjects.{tokens}
use Rattle.route_index.proofs.Changes.{drops_before}
use Rattle.route_index.proofs.tree.Tree.remove_id.Goals as goal

pub prune-requires : goal.prune-requires
prune-requires c = record { tree = c.drop_id.ensures.dropped.tree }

pub returns : goal.returns
returns c = record { dropped = drops_before c.args.self.now c.drop_id.new.self c.prune.new.self (tokens c.args.text.now) c.args.id c.drop_id.ensures.dropped c.prune.ensures.keeps }
