use Rattle.std.proofs.Common.{◌∙◌, ℕ, List, not, ap, filter, length, arith}
use Rattle.js_model.specs.Router.{Subscription}
use Rattle.route_core.specs.Table.{is_of}
use Rattle.route_core.proofs.Tables.{subs_of, holds_less, others_stay, session_less}
use Rattle.route_core.proofs.table.Table.remove_some.Goals as goal

pub invariant_of-self : goal.invariant_of-self
invariant_of-self c =
    let in' = c.self.inside in
    let d = c.in-Some.ensures.some in
    holds_less in'.subscriptions.entries in'.names in'.index in'.next c.self.invariant c.args.session d.text c.in-Some.number d.was c.pop.new.self d.drops
    c.take_out.new.subscriptions.entries c.take_out.new.index c.take_out.ensures.left c.take_out.ensures.ordered c.take_out.ensures.patterns

pub returns-in-Some-clause-others : goal.returns-in-Some-clause-others
returns-in-Some-clause-others c =
    let in' = c.self.inside in
    let d = c.in-Some.ensures.some in
    let keep : List Subscription → List Subscription = filter (λ sub. not (is_of c.args.session sub)) in
    ap (λ es. keep (subs_of es)) c.take_out.ensures.left
    ∙ others_stay in'.subscriptions.entries in'.names in'.index in'.next c.self.invariant c.args.session d.text c.in-Some.number d.was ∙ ap keep c.self.view_is

pub returns-in-Some-clause-fewer : goal.returns-in-Some-clause-fewer
returns-in-Some-clause-fewer c =
    let in' = c.self.inside in
    let d = c.in-Some.ensures.some in
    let count : List Subscription → ℕ = λ xs. length (filter (is_of c.args.session) xs) in
    let less = session_less in'.subscriptions.entries in'.names in'.index in'.next c.self.invariant c.args.session d.text c.in-Some.number d.was in
    let now = ap (λ es. count (subs_of es)) c.take_out.ensures.left in
    let old = ap count c.self.view_is in
    omega (arith, less, now, old)
