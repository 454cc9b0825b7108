use Rattle.std.proofs.Common.{◌≡◌, ◌∙◌, ap, refl, rules}
use Rattle.js_model.specs.Streams.{by_name}
use Rattle.std.specs.Option.{option_to_list}
use Rattle.place_records.specs.declared.made.OwnRecords.{OwnRecords}
use Rattle.memory_place.proofs.Answering.{told_shown}
use Rattle.memory_place.proofs.Recorded.{at_err, effect_in, rests, rests_as, room_as}
use Rattle.memory_place.proofs.RecordedConsumers.{acked_messages, acks, answered_then}
use Rattle.memory_place.proofs.Shown.{acked_shown}
use Rattle.memory_place.proofs.live_stream.LiveStream.ack.Goals as goal

pub returns-in_err-name-clause-err_recorded : goal.returns-in_err-name-clause-err_recorded
returns-in_err-name-clause-err_recorded c = at_err c.from_residual.result (rw (← c.self.view_is) (rests c.args.own.now c.self.inside.state c.requires.fresh c.holds.ensures.settled))

pub returns-in_err-told-clause-err_recorded : goal.returns-in_err-told-clause-err_recorded
returns-in_err-told-clause-err_recorded c =
    at_err c.from_residual-in_err-told.result
    (rw (← c.self.view_is) (rests_as c.args.own.now c.args.own.now c.self.inside.state c.ack.new.self refl refl c.in_err-told.ensures.err c.requires.fresh c.holds.ensures.settled))

pub returns-clause-shown : goal.returns-clause-shown
returns-clause-shown c = told_shown _ _ _ _ _ c.in_ok-told.ensures.answers (acked_shown _ _ c.args.ack.now.seq c.args.ack.now.kind _)

pub returns-clause-recorded : goal.returns-clause-recorded
returns-clause-recorded c =
    let s = c.self.inside.state in
    let ack = c.args.ack.now in
    let name_is : c.in_ok-name.name ≡ ack.consumer = search rules in
    rw (← c.self.view_is)
    (answered_then c.record.new.self _ _ _ _ _ _
    (effect_in c.args.own.now c.record.new.self c.ack_effect.result c.requires.fresh c.record.ensures.value
    ∙ ap option_to_list (rw name_is at c.ack_effect.ensures.value)
    ∙ acks s ack.consumer ack.seq ack.kind c.ack_policy-policy.result c.in_ok-told.field-0.ended c.in_ok-told.field-0.due (by_name s.consumers ack.consumer) refl (rw (← c.self.view_is) at c.ack_policy-policy.ensures.value) c.in_ok-told.ensures.ended
    c.in_ok-told.ensures.due)
    (ap (λ (o : OwnRecords). o.removed.below) c.record.ensures.value ∙ c.requires.fresh.noted) c.ack.ensures.settled c.in_ok-told.ensures.answers)

pub returns-clause-room : goal.returns-clause-room
returns-clause-room c =
    (room_as c.args.own.now c.record.new.self c.self.inside.state c.ack.new.self (rw (← c.self.view_is) at c.requires.room) (ap (λ (o : OwnRecords). o.removed) c.record.ensures.value) (acked_messages _ _ _ c.args.ack.now.seq c.args.ack.now.kind _ _ _ _ c.in_ok-told.ensures.answers))
