use Rattle.std.proofs.Common.{refl, sym}
use Rattle.js_base.specs.Subjects.{tokens}
use Rattle.route_index.proofs.Trees.{ids_less, drops_nothing}
use Rattle.route_index.proofs.tree.Tree.drop_id.Goals as goal

pub returns-in-Some : goal.returns-in-Some
returns-in-Some c =
    let old = c.args.self.now in
    record {
      dropped = ids_less old (record { branches = old.branches; ids = c.remove_at.new.ids; next = old.next }) refl refl c.requires.tree (tokens c.args.text.now) c.in-Some.node c.args.id (sym c.in-Some.ensures.node)
          c.remove_at.ensures.dropped;
    }

pub returns-in_default : goal.returns-in_default
returns-in_default c = record { dropped = drops_nothing c.args.self.now (tokens c.args.text.now) c.args.id c.requires.tree (sym c.in_default.ensures.node) }
