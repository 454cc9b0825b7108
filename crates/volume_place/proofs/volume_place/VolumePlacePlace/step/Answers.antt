use Rattle.std.proofs.Common.{◌≡◌, ℕ, Bool, None, Ok, Err, ap, subst, ◌∙◌, rules}
use Rattle.std.specs.Prelude.{Decides}
use Rattle.std.proofs.lemmas.Result.{err_from_is_err_and}
use Rattle.js_model.specs.declared.event.What.{What}
use Rattle.js_model.specs.Events.{kept_incarnation}
use Rattle.model_laws.specs.Sound.{IsSound}
use Rattle.volume_place.specs.Contents.{Contents}
use Rattle.volume_place.specs.Since.{IsOverdue}
use Rattle.volume_place.proofs.Steps.{log_made, shares_made, starves, steps_made}
use Rattle.volume_place.proofs.Urgent.{urgent_decides}
use Rattle.volume_place.proofs.volume_place.VolumePlacePlace.step.Goals as goal

sound_as : {V : Type 0} (inside place : Contents V) → inside ≡ place → IsSound inside.state → IsSound place.state
sound_as {V} inside place is = subst (λ (p : Contents V). IsSound p.state) is

kept_as : {V : Type 0} (inside place : Contents V) → inside ≡ place → kept_incarnation inside.state ≡ kept_incarnation place.state
kept_as {V} inside place is = ap (λ (p : Contents V). kept_incarnation p.state) is

overdue_as : {V : Type 0} (inside place : Contents V) → inside ≡ place → (is : Bool) (what : What) (now : ℕ) → Decides is (IsOverdue inside.since what now) → Decides is (IsOverdue place.since what now)
overdue_as {V} inside place same is what now = subst (λ (p : Contents V). Decides is (IsOverdue p.since what now)) same

pub returns-in_err-confirm-in-Ok-clause-steps : goal.returns-in_err-confirm-in-Ok-clause-steps
returns-in_err-confirm-in-Ok-clause-steps g c =
    let going : c.args.self.now.stopped ≡ None = search rules in
    let kept = c.if-event-kept.false ∙ c.incarnation-kept.ensures.value ∙ kept_as _ _ c.self.view_is in
    let overdue = overdue_as _ _ c.self.view_is c.is_overdue-overdue.result c.args.event.now.what c.args.now c.is_overdue-overdue.ensures.value in
    let decides = urgent_decides _ _ c.in-Ok.said.firm c.is_overdue-overdue.result c.is_urgent-urgent.result c.is_urgent-urgent.ensures.value c.in-Ok.ensures.firm overdue in
    let p = err_from_is_err_and c.from_residual.result c.from_residual.ensures.1 in
    rw (p.1, p.2)
    (steps_made g.V.Vol.told g.V.Vol.disk g.V.Vol.faults g.V.Vol.refusals c.args.self.now going c.answer.new.self c.confirm.new.self c.args.event.now c.args.now c.in-Ok.said.reply c.args.outs.now
    c.answer.new.outs c.confirm.new.outs c.is_urgent-urgent.result c.is_refused.result c.len-count.result (Err c.in_err-confirm-in-Ok.field-0.0)
    (sound_as _ _ c.self.view_is c.self.invariant.0.sound) kept c.in-Ok.ensures.rests c.in-Ok.ensures.answers
    c.in-Ok.ensures.recorded decides c.is_refused.ensures.value c.len-count.ensures c.in_err-confirm-in-Ok.ensures.confirms c.in_err-confirm-in-Ok.ensures.time)

pub returns-in_ok-confirm-in-Ok-clause-steps : goal.returns-in_ok-confirm-in-Ok-clause-steps
returns-in_ok-confirm-in-Ok-clause-steps g c =
    let going : c.args.self.now.stopped ≡ None = search rules in
    let kept = c.if-event-kept.false ∙ c.incarnation-kept.ensures.value ∙ kept_as _ _ c.self.view_is in
    let overdue = overdue_as _ _ c.self.view_is c.is_overdue-overdue.result c.args.event.now.what c.args.now c.is_overdue-overdue.ensures.value in
    let decides = urgent_decides _ _ c.in-Ok.said.firm c.is_overdue-overdue.result c.is_urgent-urgent.result c.is_urgent-urgent.ensures.value c.in-Ok.ensures.firm overdue in
    steps_made g.V.Vol.told g.V.Vol.disk g.V.Vol.faults g.V.Vol.refusals c.args.self.now going c.answer.new.self c.confirm.new.self c.args.event.now c.args.now c.in-Ok.said.reply c.args.outs.now
    c.answer.new.outs c.confirm.new.outs c.is_urgent-urgent.result c.is_refused.result c.len-count.result (Ok c.in_ok-confirm-in-Ok.field-0)
    (sound_as _ _ c.self.view_is c.self.invariant.0.sound) kept c.in-Ok.ensures.rests c.in-Ok.ensures.answers
    c.in-Ok.ensures.recorded decides c.is_refused.ensures.value c.len-count.ensures c.in_ok-confirm-in-Ok.ensures.confirms c.in_ok-confirm-in-Ok.ensures.time

pub returns-in_ok-confirm-in-Ok-clause-shares : goal.returns-in_ok-confirm-in-Ok-clause-shares
returns-in_ok-confirm-in-Ok-clause-shares g c =
    let going : c.args.self.now.stopped ≡ None = search rules in
    let kept = c.if-event-kept.false ∙ c.incarnation-kept.ensures.value ∙ kept_as _ _ c.self.view_is in
    let overdue = overdue_as _ _ c.self.view_is c.is_overdue-overdue.result c.args.event.now.what c.args.now c.is_overdue-overdue.ensures.value in
    let decides = urgent_decides _ _ c.in-Ok.said.firm c.is_overdue-overdue.result c.is_urgent-urgent.result c.is_urgent-urgent.ensures.value c.in-Ok.ensures.firm overdue in
    shares_made g.V.Vol.told g.V.Vol.disk g.V.Vol.faults g.V.Vol.refusals c.args.self.now going c.answer.new.self c.confirm.new.self c.args.event.now c.args.now c.in-Ok.said.reply c.args.outs.now
    c.answer.new.outs c.confirm.new.outs c.is_urgent-urgent.result c.is_refused.result c.len-count.result kept c.in-Ok.ensures.rests c.in-Ok.ensures.answers
    c.in-Ok.ensures.recorded decides c.in_ok-confirm-in-Ok.ensures.confirms

pub returns-in_ok-confirm-in-Ok-clause-log : goal.returns-in_ok-confirm-in-Ok-clause-log
returns-in_ok-confirm-in-Ok-clause-log g c =
    let going : c.args.self.now.stopped ≡ None = search rules in
    log_made g.V.Vol.told g.V.Vol.disk g.V.Vol.faults g.V.Vol.refusals c.args.self.now going c.answer.new.self c.confirm.new.self c.args.event.now c.args.now c.in-Ok.said.reply c.in-Ok.ensures.rests
    c.in-Ok.ensures.recorded c.in_ok-confirm-in-Ok.ensures.log

pub returns-in_err-confirm-in-Ok-clause-log : goal.returns-in_err-confirm-in-Ok-clause-log
returns-in_err-confirm-in-Ok-clause-log g c =
    let p = err_from_is_err_and c.from_residual.result c.from_residual.ensures.1 in
    rw (p.1, p.2) c.in_err-confirm-in-Ok.ensures.log

pub returns-in-Err-clause-steps : goal.returns-in-Err-clause-steps
returns-in-Err-clause-steps g c =
    let going : c.args.self.now.stopped ≡ None = search rules in
    let kept = c.if-event-kept.false ∙ c.incarnation-kept.ensures.value ∙ kept_as _ _ c.self.view_is in
    starves g.V.Vol.told g.V.Vol.disk g.V.Vol.faults g.V.Vol.refusals c.args.self.now going c.in-Err.left c.answer.new.self c.args.event.now c.args.now c.args.outs.now c.answer.new.outs kept c.in-Err.ensures.rests
    c.in-Err.ensures.err c.in-Err.ensures.err_recorded
