use Rattle.std.proofs.Common.{refl}
use Rattle.place_records.specs.declared.made.TimeRecords.{TimeRecords}
use Rattle.memory_place.proofs.RecordedTime.{time_told}
use Rattle.memory_place.proofs.live_stream.LiveStream.pass.Goals as goal

pub returns-clause-recorded : goal.returns-clause-recorded
returns-clause-recorded c =
    let time : TimeRecords = record { moment = c.moment-time.result; seen = c.is_seen-time.result; aged = c.advance.new.gone; given_up = c.advance.result } in
    rw (← c.self.view_is)
    (time_told c.self.inside.state c.advance.new.self c.args.now c.args.time.now time _ _ _ _ c.requires.fresh c.advance.ensures.value c.advance.ensures.gone c.advance.ensures.names refl c.is_seen-time.ensures.value
    c.moment-moment.ensures.value c.moment-time.ensures.value c.id_count-ids.ensures.value c.id_count.ensures.value)
