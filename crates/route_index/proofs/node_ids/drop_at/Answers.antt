use Rattle.std.proofs.Common.{rules, Some, ap, ◌∙◌, ◌&&◌, not, ◌==◌}
use Rattle.route_index.specs.Ids.{is_in}
use Rattle.route_index.proofs.Under.{dropped_from_set}
use Rattle.route_index.proofs.AtNodes.{drops_at}
use Rattle.route_index.proofs.node_ids.drop_at.Goals as goal

pub returns-in-Some : goal.returns-in-Some
returns-in-Some c =
    let updates = (c.get_mut.follows.holds c.remove.new.self).3 (search rules) in
    record {
      dropped = drops_at c.args.ids.now (c.get_mut.follows.lender c.remove.new.self) c.args.node c.args.id (Some c.remove.new.self) (record { at = updates.0 })
          (λ id. dropped_from_set c.in-Some.set.now c.remove.new.self c.args.id c.remove.ensures.updates.0 id ∙ ap (λ o. is_in o id && not (c.args.id == id)) c.in-Some.ensures.value);
    }
