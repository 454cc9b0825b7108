use Rattle.std.proofs.Common.{◌≡◌, ◌∙◌, ◌&&◌, ap, sym, subst, map}
use Rattle.js_model.specs.Router.{counted, is_sub, is_spent, without_spent}
use Rattle.js_model.proofs.Named.{none_some}
use Rattle.route_core.specs.Table.{Holds, Numbered}
use Rattle.route_core.proofs.Entries.{changed, values-changed}
use Rattle.route_core.proofs.Tables.{subs_of, found_under, found_changed, any_is, any_not, gone_both, keep_all, on_true, on_false, changed_there, changed_nowhere, holds_changed, counts_fix, counts_session, counts_sid, counts_pattern}
use Rattle.route_core.proofs.table.Table.count.Goals as goal
use Rattle.route_core.proofs.table.Table.count.Goals.{After-self-in-Some-get_mut-1}

-- the entries, once the message is counted
abbrev after : After-self-in-Some-get_mut-1 → Numbered
after c = (c.get_mut.follows.lender c.count.new.self).entries

left : (c : After-self-in-Some-get_mut-1) → after c ≡ changed (counted c.args.session c.args.sid.now) c.self.inside.subscriptions.entries
left c =
    let in' = c.self.inside in
    let f = counted c.args.session c.args.sid.now in
    changed_there in'.subscriptions.entries in'.names in'.index in'.next c.self.invariant c.args.session c.args.sid.now f (counts_fix c.args.session c.args.sid.now) c.in-Some.number c.in-Some-get_mut.sub.now c.count.new.self
    (after c) (sym c.in-Some.ensures.value) c.in-Some-get_mut.ensures.value c.count.ensures.value (c.get_mut.follows.holds c.count.new.self).0

holds_after : (c : After-self-in-Some-get_mut-1) → Holds (after c) c.self.inside.names c.self.inside.index c.self.inside.next
holds_after c =
    let in' = c.self.inside in
    let f = counted c.args.session c.args.sid.now in
    subst (λ xs. Holds xs in'.names in'.index in'.next) (sym (left c))
    (holds_changed in'.subscriptions.entries in'.names in'.index in'.next c.self.invariant f (counts_session c.args.session c.args.sid.now) (counts_sid c.args.session c.args.sid.now) (counts_pattern c.args.session c.args.sid.now))

pub invariant_of-self : goal.invariant_of-self
invariant_of-self c = holds_after c

pub returns-in-Some-get_mut : goal.returns-in-Some-get_mut
returns-in-Some-get_mut c =
    let in' = c.self.inside in
    let es = in'.subscriptions.entries in
    let n = c.args.session in
    let sid = c.args.sid.now in
    let f = counted n sid in
    let was = sym c.in-Some.ensures.value in
    let found = found_changed f c.in-Some.number es (after c) c.in-Some-get_mut.sub.now c.count.new.self (left c) c.in-Some-get_mut.ensures.value c.count.ensures.value in
    let told = c.is_spent.ensures.value ∙ any_is (after c) in'.names in'.index in'.next (holds_after c) n sid is_spent c.in-Some.number c.count.new.self was found in
    record {
      value = ap subs_of (left c) ∙ values-changed f es ∙ ap (map f) c.self.view_is;
      spent = on_true c.is_spent.result (λ h. gone_both (after c) in'.names in'.index in'.next (holds_after c) n sid is_spent (sym told ∙ h));
      goes_on = on_false c.is_spent.result (λ h. sym (keep_all (λ sub. is_sub n sid sub && is_spent sub) (subs_of (after c)) (sym told ∙ h)));
    }

pub returns-in_default-get_mut : goal.returns-in_default-get_mut
returns-in_default-get_mut c =
    let in' = c.self.inside in
    let it = found_under in'.subscriptions.entries in'.names in'.index in'.next c.self.invariant c.args.session c.args.sid.now c.in-Some.number (sym c.in-Some.ensures.value) in
    absurd (none_some (c.in_default-get_mut.ensures.value ∙ it.found))

pub returns-in_default-clause-value : goal.returns-in_default-clause-value
returns-in_default-clause-value c =
    let in' = c.self.inside in
    let f = counted c.args.session c.args.sid.now in
    sym c.self.view_is
    ∙ changed_nowhere in'.subscriptions.entries in'.names in'.index in'.next c.self.invariant c.args.session c.args.sid.now f (counts_fix c.args.session c.args.sid.now) (sym c.in_default.ensures.value)
    ∙ ap (map f) c.self.view_is

pub returns-in_default-clause-goes_on : goal.returns-in_default-clause-goes_on
returns-in_default-clause-goes_on c =
    let in' = c.self.inside in
    let es = in'.subscriptions.entries in
    let n = c.args.session in
    let sid = c.args.sid.now in
    let never = any_not es in'.names in'.index in'.next c.self.invariant n sid is_spent (sym c.in_default.ensures.value) in
    sym c.self.view_is ∙ sym (keep_all (λ sub. is_sub n sid sub && is_spent sub) (subs_of es) (sym never)) ∙ ap (without_spent n sid) c.self.view_is
