use Rattle.std.proofs.lemmas.Result.{on_err_weaker}
use Rattle.memory_place.proofs.Places.{ticks}
use Rattle.memory_place.proofs.slot.Slot.answer_then.Goals as goal

pub returns-in-Tick-clause-answers : goal.returns-in-Tick-clause-answers
returns-in-Tick-clause-answers c = rw (c.in-Tick.is, c.settle.ensures.value) (ticks c.args.self.now c.args.now c.args.outs.now)

pub returns-in-Drop-clause-answers : goal.returns-in-Drop-clause-answers
returns-in-Drop-clause-answers c = rw c.in-Drop.is (c.drop_stream.ensures.answers c.in-Drop.reply c.args.now)

pub returns-in-Drop-clause-takes_none : goal.returns-in-Drop-clause-takes_none
returns-in-Drop-clause-takes_none c = on_err_weaker c.drop_stream.result (λ same. λ is. cc) c.drop_stream.ensures.err

pub returns-in_default-clause-takes_none : goal.returns-in_default-clause-takes_none
returns-in_default-clause-takes_none c = on_err_weaker c.answer_other.result (λ same. c.in_default.not-Tick) c.answer_other.ensures.err
