use Rattle.std.proofs.Common.{◌≡◌, ◌∷◌, [], ◌++◌, List, refl, sym, ap, ◌∙◌, fold, map, append_assoc, append-nil}
use Rattle.std.proofs.lemmas.List.{nil_from_length}
use Rattle.route_core.specs.Subscriptions.{after_one_sent}
use Rattle.route_core.specs.Deliveries.{handed_over, counted_once}
use Rattle.route_core.specs.Sessions.{receiving}
use Rattle.route_core.specs.declared.dispatch.Posted.{Posted}
use Rattle.route_core.proofs.Searching.{order_kept}
use Rattle.route_core.proofs.Taking.{fold_shown}
use Rattle.route_core.proofs.dispatch.hand_over_all.Goals as goal
use Rattle.route_core.proofs.dispatch.hand_over_all.Goals.{After-drop-posted-iterator}

pub loop-posted-preserved : goal.loop-posted-preserved
loop-posted-preserved c =
    let p = c.in-Some.posted in
    let d = p.delivery in
    let before = c.loop-posted.yielded in
    record {
      all = append_assoc before (p ∷ []) c.next.new.self.rest.items ∙ ap (λ xs. before ++ xs) (sym c.in-Some.ensures.steps.0) ∙ c.loop-posted.invariant.all;
      sessions = c.hand_over.ensures.value ∙ ap (λ ss. handed_over ss d) c.loop-posted.invariant.sessions ∙ sym (fold_shown (λ posted. posted.delivery) handed_over c.args.sessions.now before p);
      numbered = order_kept d.session (receiving d.frame) (λ s. refl) c.loop-posted.sessions c.hand_over.new.sessions c.loop-posted.invariant.numbered c.hand_over.ensures.value;
      subscriptions = c.count_sent.ensures.left ∙ ap (λ sid. after_one_sent d.session sid c.loop-posted.subscriptions) c.as_slice.ensures
          ∙ ap (λ bs. counted_once bs d) c.loop-posted.invariant.subscriptions ∙ sym (fold_shown (λ posted. posted.delivery) counted_once c.args.subscriptions.now before p);
    }

all_yielded : (c : After-drop-posted-iterator) → c.loop-posted.yielded ≡ c.args.list.items
all_yielded c =
    let before = c.loop-posted.yielded in
    let rest = c.loop-posted.posted-iterator.rest in
    sym (append-nil before) ∙ ap (λ (xs : List Posted). before ++ xs) (sym (nil_from_length rest.items (sym rest.ok.0 ∙ c.in-None.ensures.steps.0))) ∙ c.loop-posted.invariant.all

pub returns-clause-sessions : goal.returns-clause-sessions
returns-clause-sessions c = c.loop-posted.invariant.sessions ∙ ap (λ ps. fold handed_over c.args.sessions.now (map (λ posted. posted.delivery) ps)) (all_yielded c)

pub returns-clause-subscriptions : goal.returns-clause-subscriptions
returns-clause-subscriptions c = c.loop-posted.invariant.subscriptions ∙ ap (λ ps. fold counted_once c.args.subscriptions.now (map (λ posted. posted.delivery) ps)) (all_yielded c)
