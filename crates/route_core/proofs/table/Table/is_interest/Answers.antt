use Rattle.std.proofs.Common.{◌∙◌, ◌&&◌, ap}
use Rattle.std.specs.List.{list_any}
use Rattle.std.specs.Option.{option_copied}
use Rattle.js_model.specs.Router.{is_match, is_in_group}
use Rattle.route_core.proofs.Tables.{any_member}
use Rattle.route_core.proofs.table.Table.is_interest.Goals as goal

pub returns : goal.returns
returns c =
    let in' = c.self.inside in
    let group = option_copied c.args.group in
    record {
      value = c.any_matching.ensures.value ∙ any_member group in'.subscriptions.entries c.args.subject.now in'.index c.self.invariant.ordered c.self.invariant.patterns
          ∙ ap (list_any (λ sub. is_match c.args.subject.now sub && is_in_group group sub)) c.self.view_is;
    }
