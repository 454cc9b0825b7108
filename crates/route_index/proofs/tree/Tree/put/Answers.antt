use Rattle.std.proofs.Common.{refl}
use Rattle.js_base.specs.Subjects.{tokens}
use Rattle.route_index.proofs.Changes.{adds_after}
use Rattle.route_index.proofs.Trees.{ids_kept, ids_more, keeps_both}
use Rattle.route_index.proofs.Under.{err_holds, on_ok, on_err}
use Rattle.route_index.proofs.tree.Tree.put.Goals as goal

pub returns-in_err-node-clause-err : goal.returns-in_err-node-clause-err
returns-in_err-node-clause-err c = err_holds c.from_residual.result c.way_to.ensures.grows.keeps

pub returns-clause-ok : goal.returns-clause-ok
returns-clause-ok c =
    let mid = c.way_to.new.self in
    on_ok c.put_at.result
    (λ adds. adds_after c.args.self.now mid (record { branches = mid.branches; ids = c.put_at.new.ids; next = mid.next }) (tokens c.args.text.now) c.args.id c.way_to.ensures.grows.keeps
    (ids_more mid (record { branches = mid.branches; ids = c.put_at.new.ids; next = mid.next }) refl refl c.way_to.ensures.grows.keeps.tree (tokens c.args.text.now) c.in_ok-node.node c.args.id c.in_ok-node.ensures.way adds))
    c.put_at.ensures.ok

pub returns-clause-err : goal.returns-clause-err
returns-clause-err c =
    let mid = c.way_to.new.self in
    on_err c.put_at.result
    (λ keeps. keeps_both c.args.self.now mid (record { branches = mid.branches; ids = c.put_at.new.ids; next = mid.next }) c.way_to.ensures.grows.keeps
    (ids_kept mid (record { branches = mid.branches; ids = c.put_at.new.ids; next = mid.next }) refl refl c.way_to.ensures.grows.keeps.tree keeps))
    c.put_at.ensures.err
