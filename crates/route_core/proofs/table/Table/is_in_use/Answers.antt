use Rattle.std.proofs.Common.{◌∙◌, ap}
use Rattle.std.specs.Option.{is_some}
use Rattle.std.specs.List.{list_any}
use Rattle.js_model.specs.Router.{is_sub}
use Rattle.route_core.proofs.Tables.{in_use}
use Rattle.route_core.proofs.table.Table.is_in_use.Goals as goal

pub returns : goal.returns
returns c =
    let in' = c.self.inside in
    record {
      value = c.is_some.ensures ∙ ap is_some c.number_of.ensures.value
          ∙ in_use in'.subscriptions.entries in'.names in'.index in'.next c.self.invariant c.args.session c.args.sid.now ∙ ap (list_any (is_sub c.args.session c.args.sid.now)) c.self.view_is;
    }
