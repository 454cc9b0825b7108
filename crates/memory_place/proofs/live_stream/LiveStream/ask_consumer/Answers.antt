use Rattle.std.proofs.lemmas.Result.{IfOk-weaker}
use Rattle.memory_place.proofs.Answering.{acts_as, asked_absent, asked_new, asked_same, quiet}
use Rattle.memory_place.proofs.Recorded.{at_err, at_ok, rests}
use Rattle.memory_place.proofs.RecordedConsumers.{asks_none, asks_one}
use Rattle.memory_place.proofs.Shown.{consumer_absent_utf8, other_consumer_utf8}
use Rattle.memory_place.proofs.live_stream.LiveStream.ask_consumer.Goals as goal

pub returns-in_ok-consumer_absent-in-None-clause-shown : goal.returns-in_ok-consumer_absent-in-None-clause-shown
returns-in_ok-consumer_absent-in-None-clause-shown c = consumer_absent_utf8 _ c.in_ok-consumer_absent-in-None.ensures.value

pub returns-in-None-2-clause-acts : goal.returns-in-None-2-clause-acts
returns-in-None-2-clause-acts c =
    IfOk-weaker c.make_consumer.result _ _
    (λ reply h. acts_as _ _ reply c.make_consumer.new.self (asked_new c.args.self.now c.args.name.now c.args.config.now c.args.update c.if-update.false c.in-None.ensures.value) h) c.make_consumer.ensures.acts

pub returns-in-Some-true-clause-acts : goal.returns-in-Some-true-clause-acts
returns-in-Some-true-clause-acts c =
    IfOk-weaker c.show_consumer.result _ _
    (λ reply h. acts_as _ _ reply c.show_consumer.new.self (asked_same c.args.self.now c.args.name.now c.args.config.now c.args.update (rw c.in-Some-true.field-0-test at c.in-Some-true.ensures.value)) h)
    c.show_consumer.ensures.acts

pub returns-in_ok-other_consumer-in-Some-false-clause-shown : goal.returns-in_ok-other_consumer-in-Some-false-clause-shown
returns-in_ok-other_consumer-in-Some-false-clause-shown c = other_consumer_utf8 c.args.self.now c.args.name.now c.args.config.now _ c.in_ok-other_consumer-in-Some-false.ensures.value

pub returns-in_ok-consumer_absent-in-None-clause-acts : goal.returns-in_ok-consumer_absent-in-None-clause-acts
returns-in_ok-consumer_absent-in-None-clause-acts c =
    rw c.in_ok-consumer_absent-in-None.ensures.value (quiet c.args.self.now _ _ (asked_absent c.args.self.now c.args.name.now c.args.config.now c.args.update c.if-update.true c.in-None.ensures.value))

pub returns-in_ok-consumer_absent-in-None-clause-recorded : goal.returns-in_ok-consumer_absent-in-None-clause-recorded
returns-in_ok-consumer_absent-in-None-clause-recorded c = λ to.
    rw (← c.self.view_is)
    (asks_none c.self.inside.state to c.args.name.now c.args.config.now c.args.update _ (λ absent. c.if-update.true) (rests c.args.own.now c.self.inside.state c.requires.fresh c.holds.ensures.settled))

pub returns-in-None-2-clause-recorded : goal.returns-in-None-2-clause-recorded
returns-in-None-2-clause-recorded c = λ to. rw c.if-update.false (c.make_consumer.ensures.recorded to)

pub returns-in-Some-true-clause-recorded : goal.returns-in-Some-true-clause-recorded
returns-in-Some-true-clause-recorded c = λ to.
    at_ok c.show_consumer.result
    (asks_one c.args.self.now to c.args.name.now c.args.config.now c.args.update _ _ (rw c.in-Some-true.field-0-test at c.in-Some-true.ensures.value) c.show_consumer.ensures.recorded)

pub returns-in_ok-other_consumer-in-Some-false-clause-recorded : goal.returns-in_ok-other_consumer-in-Some-false-clause-recorded
returns-in_ok-other_consumer-in-Some-false-clause-recorded c = λ to.
    asks_one c.args.self.now to c.args.name.now c.args.config.now c.args.update _ _ (rw c.in-Some-false.field-0-test at c.in-Some-false.ensures.value)
    (rw (← c.self.view_is) (rests c.args.own.now c.self.inside.state c.requires.fresh c.holds.ensures.settled))

pub returns-in_err-consumer_absent-in-None-clause-err_recorded : goal.returns-in_err-consumer_absent-in-None-clause-err_recorded
returns-in_err-consumer_absent-in-None-clause-err_recorded c = at_err c.from_residual.result (rw (← c.self.view_is) (rests c.args.own.now c.self.inside.state c.requires.fresh c.holds.ensures.settled))

pub returns-in_err-other_consumer-in-Some-false-clause-err_recorded : goal.returns-in_err-other_consumer-in-Some-false-clause-err_recorded
returns-in_err-other_consumer-in-Some-false-clause-err_recorded c =
    at_err c.from_residual-in_err-other_consumer-in-Some-false.result (rw (← c.self.view_is) (rests c.args.own.now c.self.inside.state c.requires.fresh c.holds.ensures.settled))
