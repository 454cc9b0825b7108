use Rattle.std.proofs.Common.{ap, subst, sym, ◌∙◌}
use Rattle.js_model.specs.declared.stream.State.TheVariants.{Live}
use Rattle.js_model.specs.declared.stream.Stream.{Stream}
use Rattle.js_model.specs.Events.{settled}
use Rattle.stream_state.specs.Removing.{HasRoomForOne}
use Rattle.memory_place.proofs.Passing.{ticked}
use Rattle.memory_place.proofs.Recorded.{room_as}
use Rattle.memory_place.proofs.RecordedPlaces.{room_left, serves_delivered, serves_recorded}
use Rattle.memory_place.proofs.live_stream.LiveStream.deliver_one.Goals as goal

pub release-requires : goal.release-requires
release-requires c = record {
  room =
      room_as c.start.new.made.own c.serve-sent.new.own c.pass.new.self c.serve-sent.new.self
      (subst (λ (s : Stream). HasRoomForOne s c.start.new.made.own.removed) (sym c.in-Ok-pass.ensures.passed) (room_left c.args.self.now c.args.now c.start.new.made.own c.in-Ok.ensures.own_room)) c.serve-sent.ensures.removed c.serve-sent.ensures.messages;
}

pub returns-in-Ok-sent-clause-delivers : goal.returns-in-Ok-sent-clause-delivers
returns-in-Ok-sent-clause-delivers c =
    serves_delivered c.args.self.now c.pass.new.self c.serve-sent.new.self c.release.new.self c.args.now c.in-Some.place c.args.listening.now _ c.args.outs.now c.pass.new.outs c.serve-sent.new.outs c.in-Ok-pass.ensures.passed
    c.in-Ok-pass.ensures.outs c.in-Ok-sent.ensures.served c.in-Ok-sent.ensures.trimmed c.release.ensures.value

pub returns-in-Ok-sent-clause-recorded : goal.returns-in-Ok-sent-clause-recorded
returns-in-Ok-sent-clause-recorded c =
    serves_recorded c.args.self.now c.pass.new.self c.serve-sent.new.self c.release.new.self c.args.now c.in-Some.place c.args.listening.now _ _ _ c.start.new.made.own c.serve-sent.new.own _ _ c.in-Ok-pass.ensures.passed
    c.in-Ok-sent.ensures.served c.start.ensures.fresh.own c.serve-sent.ensures.removed c.in-Ok-sent.ensures.recorded c.in-Ok-sent.ensures.trimmed c.release.ensures.value c.in-Ok-pass.ensures.recorded c.release.ensures.recorded

pub returns-in-Err-clause-delivers : goal.returns-in-Err-clause-delivers
returns-in-Err-clause-delivers c =
    ticked c.args.self.now c.args.now c.args.outs.now c.serve-sent.new.outs _ (ap Live (c.release.ensures.value ∙ ap settled (c.in-Err.ensures.err ∙ c.in-Ok-pass.ensures.passed)))
    (c.in-Err.ensures.err_outs ∙ c.in-Ok-pass.ensures.outs)
