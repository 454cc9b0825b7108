use Rattle.std.proofs.Common.{None, sym}
use Rattle.route_index.proofs.Under.{keeps_under, drops_after}
use Rattle.route_index.proofs.ids.remove_id.Goals as goal

pub returns-then-is_empty_at : goal.returns-then-is_empty_at
returns-then-is_empty_at c =
    record {
      dropped = drops_after c.args.ids.now c.drop_id.new.ids c.remove.new.self c.args.pattern.now c.args.id c.drop_id.ensures.dropped
          (keeps_under c.drop_id.new.ids c.remove.new.self c.args.pattern.now None (record { at = c.remove.ensures.updates.0 }) (λ id. sym (c.if-is_empty_at.ensures.empty id)));
    }
