use Rattle.std.proofs.Common.{None, sym}
use Rattle.route_index.proofs.AtNodes.{keeps_at, drops_at_after}
use Rattle.route_index.proofs.node_ids.remove_at.Goals as goal

pub returns-then-is_empty_at : goal.returns-then-is_empty_at
returns-then-is_empty_at c =
    record {
      dropped = drops_at_after c.args.ids.now c.drop_at.new.ids c.remove.new.self c.args.node c.args.id c.drop_at.ensures.dropped
          (keeps_at c.drop_at.new.ids c.remove.new.self c.args.node None (record { at = c.remove.ensures.updates.0 }) (λ id. sym (c.if-is_empty_at.ensures.empty id)));
    }
