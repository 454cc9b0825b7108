use Rattle.std.proofs.Common.{true}
use Rattle.memory_place.proofs.Passing.{answers_after, left_behind}
use Rattle.memory_place.proofs.RecordedPlaces.{event_told, left_told, room_then}
use Rattle.memory_place.proofs.slot.Slot.answer.Goals as goal

pub answer_then-requires-clause-room : goal.answer_then-requires-clause-room
answer_then-requires-clause-room c = room_then c.args.self.now c.pass.new.self c.args.now c.start.new.made.own c.in-Ok-pass.ensures.passed c.in-Ok.ensures.room.own

pub returns-in-Ok-answer_then-clause-answers : goal.returns-in-Ok-answer_then-clause-answers
returns-in-Ok-answer_then-clause-answers c =
    answers_after true c.args.self.now c.pass.new.self c.args.what.now c.args.now c.in-Ok-answer_then.reply c.args.outs.now c.pass.new.outs c.answer_then.new.outs c.answer_then.new.self
    c.in-Ok-pass.ensures.passed c.in-Ok-pass.ensures.outs c.in-Ok-answer_then.ensures.answers

pub returns-in-Ok-answer_then-clause-recorded : goal.returns-in-Ok-answer_then-clause-recorded
returns-in-Ok-answer_then-clause-recorded c =
    event_told true c.args.self.now c.pass.new.self c.args.what.now c.args.now _ _ c.in-Ok-pass.ensures.passed c.in-Ok-pass.ensures.recorded c.in-Ok-answer_then.ensures.recorded

pub returns-in-Err-clause-err : goal.returns-in-Err-clause-err
returns-in-Err-clause-err c =
    rw (c.left-left.ensures.value, c.in-Err.ensures.err_outs)
    (left_behind c.args.self.now c.pass.new.self c.answer_then.new.self c.args.now c.args.outs.now c.pass.new.outs c.in-Ok-pass.ensures.passed c.in-Err.ensures.err c.in-Ok-pass.ensures.outs)

pub returns-in-Err-clause-recorded : goal.returns-in-Err-clause-recorded
returns-in-Err-clause-recorded c =
    rw c.left-left.ensures.value (left_told c.args.self.now c.pass.new.self c.args.now _ _ c.in-Ok-pass.ensures.passed c.in-Ok-pass.ensures.recorded c.in-Err.ensures.err_recorded)
