use Rattle.std.proofs.Common.{[], refl}
use Rattle.memory_place.proofs.Answering.{told_shown}
use Rattle.memory_place.proofs.Recorded.{at_err, none_in, rests_as, room_as}
use Rattle.memory_place.proofs.RecordedConsumers.{answered_then, pulled_messages}
use Rattle.memory_place.proofs.Shown.{pulled_shown}
use Rattle.memory_place.proofs.live_stream.LiveStream.pull.Goals as goal

pub returns-clause-shown : goal.returns-clause-shown
returns-clause-shown c = told_shown _ _ _ _ _ c.in_ok-told.ensures.answers (pulled_shown _ _ c.args.ask _)

pub returns-clause-recorded : goal.returns-clause-recorded
returns-clause-recorded c =
    rw (← c.self.view_is) (answered_then c.args.own.now [] _ _ _ _ _ (none_in c.args.own.now c.requires.fresh) c.requires.fresh.noted c.pull.ensures.settled c.in_ok-told.ensures.answers)

pub returns-in_err-told-clause-err_recorded : goal.returns-in_err-told-clause-err_recorded
returns-in_err-told-clause-err_recorded c =
    at_err c.from_residual.result (rw (← c.self.view_is) (rests_as c.args.own.now c.args.own.now c.self.inside.state c.pull.new.self refl refl c.in_err-told.ensures.err c.requires.fresh c.holds.ensures.settled))

pub returns-clause-room : goal.returns-clause-room
returns-clause-room c =
    (room_as c.args.own.now c.args.own.now c.self.inside.state c.pull.new.self (rw (← c.self.view_is) at c.requires.room) refl (pulled_messages _ _ _ c.args.ask _ _ _ _ c.in_ok-told.ensures.answers))
