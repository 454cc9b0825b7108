use Rattle.std.proofs.Common.{◌∙◌, List, map, refl, ℕ, sym, ap, append-nil, arith}
use Rattle.std.specs.Prelude.{filter}
use Rattle.std.proofs.lemmas.List.{take_all}
use Rattle.js_model.specs.Router.{Subscription}
use Rattle.route_core.specs.Subscriptions.{hears}
use Rattle.route_core.proofs.Taking.{added_one}
use Rattle.route_core.proofs.Tables.{at_numbers, is_reached, heard_more, all_heard}
use Rattle.route_core.proofs.table.Table.hearing.Goals as goal
use Rattle.route_core.proofs.table.Table.hearing.Goals.{in-Some+in_ok-push, in_default}

pub loop-number-preserved : goal.loop-number-preserved
loop-number-preserved c =
    let es = c.self.inside.subscriptions.entries in
    let ids = c.deref-number-items.result.now in
    let found = map (λ heard. heard.sub.now) c.loop-number.found.items in
    elim c.match-heard_at.branch [
      | in-Some+in_ok-push w ↦
          ap (λ v. map (λ heard. heard.sub.now) v.items) w.found-is ∙ added_one (λ heard. heard.sub.now) c.loop-number.found.items _ _ w.in-Some.sub.now w.in_ok-push.ensures.items refl
          ∙ heard_more c.args.deaf es found ids c.loop-number.number-index _ _ (omega (arith, c.loop-number-test.true)) c.loop-number.invariant w.in-Some.ensures.value
      | in_default w ↦
          ap (λ v. map (λ heard. heard.sub.now) v.items) w.found-is ∙ sym (append-nil found)
          ∙ heard_more c.args.deaf es found ids c.loop-number.number-index _ _ (omega (arith, c.loop-number-test.true)) c.loop-number.invariant w.in_default.ensures.value
    ]

pub returns : goal.returns
returns c =
    let in' = c.self.inside in
    let es = in'.subscriptions.entries in
    let ids = c.deref-number-items.result.now in
    let kept : List ℕ → List Subscription = λ numbers. filter (is_reached c.args.deaf) (at_numbers es numbers) in
    record {
      value = c.loop-number.invariant ∙ ap kept (take_all c.loop-number.number-index ids (omega (arith, c.loop-number-test.false, c.loop-number.auto.number-index-end)))
          ∙ ap kept (c.deref-number-items.ensures.value ∙ c.in_ok-numbers.ensures.ids) ∙ all_heard c.args.deaf es c.args.subject.now in'.index c.self.invariant.ordered c.self.invariant.patterns
          ∙ ap (filter (hears c.args.subject.now c.args.deaf)) c.self.view_is;
    }
