use Rattle.std.proofs.Common.{None, refl, sym}
use Rattle.place_records.specs.declared.made.OwnRecords.{OwnRecords}
use Rattle.memory_place.proofs.Answering.{consumer_is_made, released_by}
use Rattle.memory_place.proofs.Recorded.{at_err, rests}
use Rattle.memory_place.proofs.RecordedConsumers.{fault_acts, fault_recorded, fault_shown, makes}
use Rattle.memory_place.proofs.Shown.{consumer_sound}
use Rattle.memory_place.proofs.live_stream.LiveStream.make_recorded.Goals as goal

pub returns-clause-acts : goal.returns-clause-acts
returns-clause-acts c =
    rw (← c.self.view_is)
    (consumer_is_made c.self.inside.state c.make_consumer-made.new.self c.args.name.now c.args.config.now _ c.in-Ok.ensures.allowed
    (released_by _ c.make_consumer-made.new.self c.in-Ok.ensures.made c.in-Ok.ensures.again c.make_consumer-made.ensures.settled) c.in-Ok.ensures.info)

pub returns-clause-shown : goal.returns-clause-shown
returns-clause-shown c = consumer_sound c.make_consumer-made.new.self c.args.name.now _ c.holds.ensures.config c.holds.ensures.proper (sym c.in-Ok.ensures.info)

pub returns-clause-recorded : goal.returns-clause-recorded
returns-clause-recorded c = λ to.
    let s = c.self.inside.state in
    let own : OwnRecords = record { effect = c.args.own.now.effect; removed = c.make_consumer-made.new.gone } in
    rw (← c.self.view_is)
    (makes s to c.args.name.now c.args.config.now c.args.own.now own c.record.new.self c.make_consumer-made.new.self c.in-Ok.new.cursor c.in-Ok.new.picks (rw (← c.self.view_is) at c.requires.absent) c.in-Ok.ensures.allowed c.requires.fresh
    (rw (← c.self.view_is) at c.requires.trimmed) refl c.in-Ok.ensures.gone (rw (c.requires.kept_name, c.requires.kept_config, c.moment-moment.ensures.value) at c.record.ensures.value) c.in-Ok.ensures.made c.in-Ok.ensures.again c.in-Ok.ensures.cursor
    c.in-Ok.ensures.picks)

pub returns-in-Err-clause-acts : goal.returns-in-Err-clause-acts
returns-in-Err-clause-acts c = rw (c.in-Err.ensures.err, ← c.self.view_is) (fault_acts c.self.inside.state None c.args.name.now c.args.config.now c.in-Err.fault c.give_up.result c.give_up.ensures.told c.in-Err.ensures.refused)

pub returns-in-Err-clause-shown : goal.returns-in-Err-clause-shown
returns-in-Err-clause-shown c = fault_shown c.self.inside.state None c.args.name.now c.args.config.now c.in-Err.fault c.give_up.result c.give_up.ensures.told c.in-Err.ensures.refused

pub returns-in-Err-clause-recorded : goal.returns-in-Err-clause-recorded
returns-in-Err-clause-recorded c = λ to.
    let own : OwnRecords = record { effect = c.args.own.now.effect; removed = c.make_consumer-made.new.gone } in
    rw (c.in-Err.ensures.err, c.in-Err.ensures.err_gone, ← c.self.view_is)
    (fault_recorded c.self.inside.state to c.args.name.now c.args.config.now c.in-Err.fault c.give_up.result c.give_up.ensures.told c.in-Err.ensures.refused c.args.own.now (rw (← c.self.view_is) at c.requires.absent) c.requires.fresh (rw (← c.self.view_is) at c.requires.trimmed))

pub returns-in-Err-clause-err_recorded : goal.returns-in-Err-clause-err_recorded
returns-in-Err-clause-err_recorded c =
    at_err c.give_up.result
    (rw (c.in-Err.ensures.err, c.in-Err.ensures.err_gone, ← c.self.view_is) (rests c.args.own.now c.self.inside.state c.requires.fresh (rw (← c.self.view_is) at c.requires.trimmed)))
