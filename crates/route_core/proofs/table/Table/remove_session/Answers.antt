use Rattle.std.proofs.Common.{◌∙◌, ap, filter, length}
use Rattle.route_core.specs.Table.{is_of}
use Rattle.route_core.proofs.Tables.{none_of}
use Rattle.route_core.proofs.table.Table.remove_session.Goals as goal

pub forget-requires : goal.forget-requires
forget-requires c = record {
  empty = c.self.invariant.counts c.args.session ∙ ap (λ xs. length (filter (is_of c.args.session) xs)) (c.self.view_is ∙ c.remove_each.ensures.left) ∙ none_of c.args.session c.args.self.now;
}
