use Rattle.place_records.specs.declared.made.OwnRecords.{OwnRecords}
use Rattle.memory_place.proofs.Recorded.{at_err, rests}
use Rattle.memory_place.proofs.RecordedStreams.{changes, changes_nothing}
use Rattle.std.proofs.Common.{◌≡◌, ◌∙◌, Bool, true, Some, None, cond, refl, subst, sym, ap}
use Rattle.js_model.specs.Configs.{same_retention, same_stream_config}
use Rattle.effects.specs.declared.effect.Effect.TheVariants.{ChangeStream}
use Rattle.removals.specs.Leaving.{trim_ranges}
use Rattle.removals.specs.Removed.{Notes}
use Rattle.js_model.specs.declared.stream_config.StreamConfig.{StreamConfig}
use Rattle.js_model.specs.Trim.{trim}
use Rattle.memory_place.proofs.Answering.{acts_as, changed_same, released_trimmed, settled_trim_config, shows}
use Rattle.memory_place.proofs.Shown.{retention_cannot_change_utf8}
use Rattle.memory_place.proofs.live_stream.LiveStream.change.Goals as goal

pub info_with-requires : goal.info_with-requires
info_with-requires c = record {
  copy = rw (c.release.ensures.value, c.change.ensures.value, c.in_ok-kept.ensures.copy, c.in_ok-told.ensures.copy) (sym (settled_trim_config (record c.self.inside.state { config = c.args.config.now })));
}

pub returns-clause-acts : goal.returns-clause-acts
returns-clause-acts c =
    let s = c.self.inside.state in
    let config = c.args.config.now in
    let new_is : c.change.new.self ≡ trim (record s { config = config }) = c.change.ensures.value ∙ ap (λ (kept : StreamConfig). trim (record s { config = kept })) c.in_ok-kept.ensures.copy in
    let same = rw c.config.ensures.value at (sym c.same_retention.ensures.value ∙ c.if-not-same_retention.false) in
    rw (← c.self.view_is)
    (acts_as _ _ _ c.release.new.self (changed_same s config same)
    (shows (record s { config = config }) c.release.new.self c.info_with.result
    (released_trimmed (record s { config = config }) c.change.new.self c.release.new.self new_is c.change.ensures.settled (record { value = c.release.ensures.value; again = c.release.ensures.again }))
    c.info_with.ensures.value))

pub returns-then-not-same_retention-clause-shown : goal.returns-then-not-same_retention-clause-shown
returns-then-not-same_retention-clause-shown c = retention_cannot_change_utf8 _ c.in_ok-retention_cannot_change.ensures.value

pub returns-in_err-retention_cannot_change-clause-err_recorded : goal.returns-in_err-retention_cannot_change-clause-err_recorded
returns-in_err-retention_cannot_change-clause-err_recorded c = at_err c.from_residual.result (rw (← c.self.view_is) (rests c.args.own.now c.self.inside.state c.requires.fresh c.holds.ensures.settled))

pub returns-in_err-kept-clause-err_recorded : goal.returns-in_err-kept-clause-err_recorded
returns-in_err-kept-clause-err_recorded c = at_err c.from_residual-in_err-kept.result (rw (← c.self.view_is) (rests c.args.own.now c.self.inside.state c.requires.fresh c.holds.ensures.settled))

pub returns-in_err-told-clause-err_recorded : goal.returns-in_err-told-clause-err_recorded
returns-in_err-told-clause-err_recorded c = at_err c.from_residual-in_err-told.result (rw (← c.self.view_is) (rests c.args.own.now c.self.inside.state c.requires.fresh c.holds.ensures.settled))

pub returns-in_err-recorded-clause-err_recorded : goal.returns-in_err-recorded-clause-err_recorded
returns-in_err-recorded-clause-err_recorded c = at_err c.from_residual-in_err-recorded.result (rw (← c.self.view_is) (rests c.args.own.now c.self.inside.state c.requires.fresh c.holds.ensures.settled))

pub returns-then-not-same_retention-clause-recorded : goal.returns-then-not-same_retention-clause-recorded
returns-then-not-same_retention-clause-recorded c = λ to.
    rw (← c.self.view_is)
    (changes_nothing c.self.inside.state to c.args.config.now c.args.own.now (rw c.config.ensures.value at (sym c.same_retention.ensures.value ∙ c.if-not-same_retention.true)) c.requires.fresh c.holds.ensures.settled)

pub returns-clause-recorded : goal.returns-clause-recorded
returns-clause-recorded c = λ to.
    let s = c.self.inside.state in
    let config = c.args.config.now in
    let old : OwnRecords = c.record.new.self in
    let own : OwnRecords = record { effect = old.effect; removed = c.change.new.gone } in
    let kept_is : same_retention config.retention s.config.retention ≡ true = rw c.config.ensures.value at (sym c.same_retention.ensures.value ∙ c.if-not-same_retention.false) in
    let same_is : c.same_stream_config-is_same.result ≡ same_stream_config config s.config = c.same_stream_config-is_same.ensures.value ∙ ap (same_stream_config config) c.config-2.ensures.value in
    let effect_is : old.effect ≡ cond (same_stream_config config s.config) None (Some (ChangeStream config)) =
    ap (λ (o : OwnRecords). o.effect) c.record.ensures.value ∙ c.change_effect.ensures.value
    ∙ ap (λ (b : Bool). cond b None (Some (ChangeStream c.in_ok-recorded.recorded))) same_is
    ∙ ap (λ (kept : StreamConfig). cond (same_stream_config config s.config) None (Some (ChangeStream kept))) c.in_ok-recorded.ensures.copy in
    rw (← c.self.view_is)
    (c.release.ensures.then
    ∙ changes s to config old own c.change.new.self c.holds.ensures.order kept_is effect_is
    (ap (λ (o : OwnRecords). o.removed.ranges) c.record.ensures.value ∙ c.requires.fresh.none_removed) (ap (λ (o : OwnRecords). o.removed.below) c.record.ensures.value ∙ c.requires.fresh.noted) refl
    (subst (λ (kept : StreamConfig). Notes old.removed (trim_ranges old.removed.below (record s { config = kept })) c.change.new.gone) c.in_ok-kept.ensures.copy c.change.ensures.gone)
    (c.change.ensures.value ∙ ap (λ (kept : StreamConfig). trim (record s { config = kept })) c.in_ok-kept.ensures.copy))
