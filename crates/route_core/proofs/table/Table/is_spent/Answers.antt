use Rattle.std.proofs.Common.{◌∙◌, ◌&&◌, not, ap, sym, filter}
use Rattle.js_model.specs.Router.{is_sub, is_spent, without_spent}
use Rattle.route_core.specs.Table.{is_spent_some}
use Rattle.route_core.proofs.Tables.{subs_of, found_under, any_is, any_not, gone_both, keep_all, on_true, on_false}
use Rattle.route_core.proofs.table.Table.is_spent.Goals as goal

pub returns-in-Some : goal.returns-in-Some
returns-in-Some c =
    let in' = c.self.inside in
    let es = in'.subscriptions.entries in
    let n = c.args.session in
    let sid = c.args.sid.now in
    let was = sym c.in-Some.ensures.value in
    let it = found_under es in'.names in'.index in'.next c.self.invariant n sid c.in-Some.number was in
    let told = c.is_spent_at.ensures.value ∙ ap is_spent_some it.found ∙ any_is es in'.names in'.index in'.next c.self.invariant n sid is_spent c.in-Some.number it.sub was it.found in
    record {
      spent = on_true c.is_spent_at.result (λ h. ap (filter (λ sub. not (is_sub n sid sub))) (sym c.self.view_is)
          ∙ gone_both es in'.names in'.index in'.next c.self.invariant n sid is_spent (sym told ∙ h) ∙ ap (without_spent n sid) c.self.view_is);
      goes_on = on_false c.is_spent_at.result (λ h. sym c.self.view_is ∙ sym (keep_all (λ sub. is_sub n sid sub && is_spent sub) (subs_of es) (sym told ∙ h)) ∙ ap (without_spent n sid) c.self.view_is);
    }

pub returns-in-None : goal.returns-in-None
returns-in-None c =
    let in' = c.self.inside in
    let es = in'.subscriptions.entries in
    let n = c.args.session in
    let sid = c.args.sid.now in
    let never = any_not es in'.names in'.index in'.next c.self.invariant n sid is_spent (sym c.in-None.ensures.value) in
    record {
      spent = tt;
      goes_on = sym c.self.view_is ∙ sym (keep_all (λ sub. is_sub n sid sub && is_spent sub) (subs_of es) (sym never)) ∙ ap (without_spent n sid) c.self.view_is;
    }
