use Rattle.memory_place.proofs.Places.{refuses}
use Rattle.memory_place.proofs.Shown.{no_stream_utf8}
use Rattle.memory_place.proofs.slot.Slot.answer_vacant.Goals as goal

pub returns-in-Make-clause-answers : goal.returns-in-Make-clause-answers
returns-in-Make-clause-answers c = λ outs. rw c.in-Make.is (c.make.ensures.answers c.in-Make.reply outs)

pub returns-in_ok-no_stream-in_default-clause-answers : goal.returns-in_ok-no_stream-in_default-clause-answers
returns-in_ok-no_stream-in_default-clause-answers c = λ outs.
    rw c.in_ok-no_stream-in_default.ensures.value
    (refuses c.args.self.now c.args.what.now c.args.now outs c.requires.vacant c.in_default.not-Make c.requires.more)

pub returns-in_ok-no_stream-in_default-clause-shown : goal.returns-in_ok-no_stream-in_default-clause-shown
returns-in_ok-no_stream-in_default-clause-shown c = no_stream_utf8 _ c.in_ok-no_stream-in_default.ensures.value
