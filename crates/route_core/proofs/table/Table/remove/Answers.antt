use Rattle.std.proofs.Common.{◌∙◌, not, ap, sym, filter}
use Rattle.std.specs.Option.{is_some}
use Rattle.js_model.specs.Router.{is_sub}
use Rattle.route_core.proofs.Tables.{subs_of, in_use, holds_less, list_less, keep_all}
use Rattle.route_core.proofs.table.Table.remove.Goals as goal

pub invariant_of-self : goal.invariant_of-self
invariant_of-self c =
    let in' = c.self.inside in
    holds_less in'.subscriptions.entries in'.names in'.index in'.next c.self.invariant c.args.session c.args.sid.now c.in-Some.number (sym c.in-Some.ensures.was) c.remove.new.self c.in-Some.ensures.some
    c.take_out.new.subscriptions.entries c.take_out.new.index c.take_out.ensures.left c.take_out.ensures.ordered c.take_out.ensures.patterns

pub returns-in-Some : goal.returns-in-Some
returns-in-Some c =
    let in' = c.self.inside in
    record {
      left = ap subs_of c.take_out.ensures.left ∙ list_less in'.subscriptions.entries in'.names in'.index in'.next c.self.invariant c.args.session c.args.sid.now c.in-Some.number (sym c.in-Some.ensures.was)
          ∙ ap (filter (λ sub. not (is_sub c.args.session c.args.sid.now sub))) c.self.view_is;
    }

pub returns-in_default : goal.returns-in_default
returns-in_default c =
    let in' = c.self.inside in
    let es = in'.subscriptions.entries in
    let none = sym (in_use es in'.names in'.index in'.next c.self.invariant c.args.session c.args.sid.now) ∙ ap is_some (sym c.in_default.ensures.was) in
    record {
      left = sym (keep_all (is_sub c.args.session c.args.sid.now) (subs_of es) none) ∙ ap (filter (λ sub. not (is_sub c.args.session c.args.sid.now sub))) c.self.view_is;
    }
