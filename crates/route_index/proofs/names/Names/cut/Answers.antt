use Rattle.route_index.proofs.Naming.{cuts_by, cuts_kept}
use Rattle.route_index.proofs.names.Names.cut.Goals as goal

pub returns : goal.returns
returns c = record {
  cut = cuts_kept c.args.self.now c.remove.new.self c.forget_if_empty.new.self c.args.owner c.args.text.now
      (cuts_by c.args.self.now c.remove.new.self c.args.owner c.args.text.now c.remove.result c.remove.ensures.was c.remove.ensures.some c.remove.ensures.none) c.forget_if_empty.ensures.kept;
}
