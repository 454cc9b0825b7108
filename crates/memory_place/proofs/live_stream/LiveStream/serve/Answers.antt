use Rattle.std.proofs.Common.{◌≡◌, ◌∙◌, ℕ, ap}
use Rattle.std.specs.Option.{option_to_list}
use Rattle.js_base.specs.Moments.{plus}
use Rattle.js_model.specs.declared.stream.Stream.{Stream}
use Rattle.stream_state.specs.Serving.{Serves}
use Rattle.place_records.specs.declared.made.OwnRecords.{OwnRecords}
use Rattle.memory_place.proofs.RecordedPlaces.{serves_told}
use Rattle.memory_place.specs.Recording.{sent_effect}
use Rattle.memory_place.proofs.live_stream.LiveStream.serve.Goals as goal

pub returns-clause-recorded : goal.returns-clause-recorded
returns-clause-recorded c =
    let s = c.self.inside.state in
    let made = c.in-Some.delivery in
    let served : Serves s c.args.place c.args.listening.now made c.args.outs.now c.deliver.new.outs c.deliver.new.self = rw c.in-Some.is at c.in_ok-delivery.ensures.served in
    let due_is : c.plus-due.result ≡ plus s.moment c.ack_wait-wait.result =
    c.plus-due.ensures ∙ ap (λ (n : ℕ). plus n c.ack_wait-wait.result) (c.moment.ensures.value ∙ ap (λ (t : Stream). t.moment) served.new_is) in
    rw (← c.self.view_is)
    (ap (λ (o : OwnRecords). option_to_list o.effect) c.record.ensures.value
    ∙ ap option_to_list (c.sent_effect.ensures.value ∙ ap (sent_effect c.in_ok-name.name made.what) due_is)
    ∙ serves_told s c.args.place c.args.listening.now made c.args.outs.now c.deliver.new.outs c.deliver.new.self c.in_ok-name.name c.ack_wait-wait.result served (rw (← c.self.view_is) at c.in_ok-name.ensures.value)
    (rw (← c.self.view_is) at c.ack_wait-wait.ensures.value))
