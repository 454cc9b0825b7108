use Rattle.std.proofs.Common.{◌∙◌, ap, refl}
use Rattle.server.specs.Ending.{Attended, Unopened}
use Rattle.server.specs.Outside.{SinkTold}
use Rattle.server.proofs.Ended.{attended_unrefused, closing_unprinted, refused_unprinted}
use Rattle.server.proofs.running.pipe.Goals as goal

pub returns-in-Ok-clause-ends : goal.returns-in-Ok-clause-ends
returns-in-Ok-clause-ends g c = Attended (record {
  desk = c.in-Ok.desk;
  after = c.attend-outcome.new.desk;
  outcome = c.attend-outcome.result;
  sink = record { written = g.O.Sink.written c.attend-outcome.new.out; faults = g.O.Sink.faults c.attend-outcome.new.out };
  closed = c.close_all-vols.result;
  opens = c.in-Ok.ensures.opened;
  attended = c.attend-outcome.ensures.attended;
  closes = c.close_all-vols.ensures.closes;
  vols = refl;
  status_is = c.settle.ensures.status;
  printed = c.settle.ensures.printed;
})

pub returns-in-Err-clause-ends : goal.returns-in-Err-clause-ends
returns-in-Err-clause-ends g c = Unopened (record {
  fault = c.in-Err.fault;
  refused = c.in-Err.ensures.err;
  vols = c.refuse.ensures.vols;
  status_is = c.refuse.ensures.status;
  printed = c.refuse.ensures.printed;
  unread = refl;
  door = refl;
})

pub returns-in-Ok-clause-unprinted : goal.returns-in-Ok-clause-unprinted
returns-in-Ok-clause-unprinted g c = λ four five eleven.
    let outcome = c.attend-outcome.result in
    let failed = c.close_all-vols.result.failed in
    let closing = c.settle.ensures in
    ap (λ (sink : SinkTold). sink.written) (closing_unprinted outcome.served outcome.status failed _ _ closing.printed (λ e. four (closing.status ∙ e)))
    ∙ c.attend-outcome.ensures.unprinted (attended_unrefused _ _ _ _ outcome _ _ failed c.attend-outcome.ensures.attended (λ e. eleven (closing.status ∙ e)))

pub returns-in-Err-clause-unprinted : goal.returns-in-Err-clause-unprinted
returns-in-Err-clause-unprinted g c = λ four five eleven.
    let refused = c.refuse.ensures in
    ap (λ (sink : SinkTold). sink.written) (refused_unprinted c.in-Err.fault _ _ refused.printed (λ e. four (refused.status ∙ e)) (λ e. five (refused.status ∙ e)))
