use Rattle.route_index.proofs.Trees.{keeps_both}
use Rattle.route_index.proofs.tree.Tree.+prune.Goals as goal

pub returns-in-Some-step : goal.returns-in-Some-step
returns-in-Some-step t c = record { keeps = keeps_both c.args.self.now c.prune.new.self c.cut_if_bare.new.self c.prune.ensures.keeps c.cut_if_bare.ensures.keeps }
