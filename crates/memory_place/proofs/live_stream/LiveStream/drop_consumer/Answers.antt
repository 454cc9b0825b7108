use Rattle.std.proofs.Common.{◌≡◌, ◌∙◌, ap, refl, rules}
use Rattle.std.specs.Prelude.{is_some}
use Rattle.js_model.specs.declared.consumer.Consumer.{Consumer}
use Rattle.js_model.specs.Streams.{by_name}
use Rattle.std.specs.Option.{option_to_list}
use Rattle.place_records.specs.declared.made.OwnRecords.{OwnRecords}
use Rattle.memory_place.proofs.Answering.{told_shown}
use Rattle.memory_place.proofs.Recorded.{at_err, copied_some, effect_in, mapped_some, rests, rests_as, room_as}
use Rattle.memory_place.proofs.RecordedConsumers.{answered_then, dropped_messages, drops}
use Rattle.memory_place.proofs.Shown.{dropped_shown}
use Rattle.memory_place.proofs.live_stream.LiveStream.drop_consumer.Goals as goal

pub returns-in_err-kept_name-clause-err_recorded : goal.returns-in_err-kept_name-clause-err_recorded
returns-in_err-kept_name-clause-err_recorded c = at_err c.from_residual.result (rw (← c.self.view_is) (rests c.args.own.now c.self.inside.state c.requires.fresh c.holds.ensures.settled))

pub returns-in_err-reply-clause-err_recorded : goal.returns-in_err-reply-clause-err_recorded
returns-in_err-reply-clause-err_recorded c =
    at_err c.from_residual-in_err-reply.result
    (rw (← c.self.view_is) (rests_as c.args.own.now c.args.own.now c.self.inside.state c.drop_consumer.new.self refl refl c.in_err-reply.ensures.err c.requires.fresh c.holds.ensures.settled))

pub returns-clause-shown : goal.returns-clause-shown
returns-clause-shown c = told_shown _ _ _ _ _ c.in_ok-reply.ensures.answers (dropped_shown _ _)

pub returns-clause-recorded : goal.returns-clause-recorded
returns-clause-recorded c = λ to.
    let s = c.self.inside.state in
    let name_is : c.in_ok-kept_name.kept_name ≡ c.args.name.now = search rules in
    rw (← c.self.view_is)
    (answered_then c.record.new.self _ _ _ _ _ _
    (effect_in c.args.own.now c.record.new.self c.drop_effect.result c.requires.fresh c.record.ensures.value
    ∙ ap option_to_list (rw name_is at c.drop_effect.ensures.value)
    ∙ drops (by_name s.consumers c.args.name.now) s.consumers c.args.name.now c.is_some-is_there.result refl
    (c.is_some-is_there.ensures ∙ copied_some c.consumer_config.result ∙ ap is_some c.consumer_config.ensures.value ∙ mapped_some (λ (d : Consumer). d.config) (by_name s.consumers c.args.name.now)))
    (ap (λ (o : OwnRecords). o.removed.below) c.record.ensures.value ∙ c.requires.fresh.noted) c.drop_consumer.ensures.settled c.in_ok-reply.ensures.answers)

pub returns-clause-room : goal.returns-clause-room
returns-clause-room c =
    (room_as c.args.own.now c.record.new.self c.self.inside.state c.drop_consumer.new.self (rw (← c.self.view_is) at c.requires.room) (ap (λ (o : OwnRecords). o.removed) c.record.ensures.value) (dropped_messages _ _ _ _ _ _ c.in_ok-reply.ensures.answers))
