use Rattle.std.proofs.Common.{◌∙◌, sym}
use Rattle.std.proofs.lemmas.Result.{IfOk-weaker, on_ok_weaker}
use Rattle.memory_place.proofs.VerdictTexts.{no_room_utf8}
use Rattle.memory_place.proofs.WithoutRoom.{answered_records, answered_without, refused_records, refused_without}
use Rattle.memory_place.proofs.slot.Slot.answer_or_refuse.Goals as goal

pub returns-then-not-needs-clause-answers : goal.returns-then-not-needs-clause-answers
returns-then-not-needs-clause-answers c =
    IfOk-weaker c.answer_then.result _ _
    (λ reply h. answered_without c.args.self.now c.args.what.now c.args.now reply c.args.outs.now c.answer_then.new.outs c.answer_then.new.self (sym c.in-Ok.ensures.value ∙ c.if-not-needs.true) h)
    c.answer_then.ensures.answers

pub returns-then-not-needs-clause-recorded : goal.returns-then-not-needs-clause-recorded
returns-then-not-needs-clause-recorded c =
    on_ok_weaker c.answer_then.result (λ told. told ∙ answered_records c.args.self.now c.args.what.now c.args.now (sym c.in-Ok.ensures.value ∙ c.if-not-needs.true)) c.answer_then.ensures.recorded

pub returns-clause-answers : goal.returns-clause-answers
returns-clause-answers c =
    rw c.in_ok-no_room.ensures.value
    (refused_without c.args.self.now c.args.what.now c.args.now c.args.outs.now c.settle-2.new.self (sym c.in-Ok.ensures.value ∙ c.if-not-needs.false) c.settle-2.ensures.value)

pub returns-clause-recorded : goal.returns-clause-recorded
returns-clause-recorded c = c.settle-2.ensures.recorded ∙ refused_records c.args.self.now c.args.what.now c.args.now (sym c.in-Ok.ensures.value ∙ c.if-not-needs.false)

pub returns-clause-shown : goal.returns-clause-shown
returns-clause-shown c = rw c.in_ok-no_room.ensures.value no_room_utf8
