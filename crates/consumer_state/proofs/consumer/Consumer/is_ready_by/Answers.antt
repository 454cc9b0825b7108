use Rattle.std.proofs.Common.{refl, true, false}
use Rattle.consumer_state.specs.Keeping.{kept_of}
use Rattle.consumer_state.proofs.Currents.{ready_read}
use Rattle.consumer_state.proofs.consumer.Consumer.is_ready_by.Goals as goal

pub returns-else-is_asked_by : goal.returns-else-is_asked_by
returns-else-is_asked_by g c = record {
  value =
      ready_read (g.W.View.stream c.args.stream.now) (kept_of c.self.inside.name c.self.inside.made c.self.inside.config c.self.inside.progress c.self.inside.pulls c.self.inside.mark) c.args.self.now c.moment-now.result c.args.listened false _ _ _ c.self.view_is c.moment-now.ensures.value c.holds.ensures.consumer.no_pulls
      c.if-is_asked_by.ensures.value refl refl c.if-is_asked_by.false;
}

pub returns-then-has_running_no_wait : goal.returns-then-has_running_no_wait
returns-then-has_running_no_wait g c = record {
  value =
      ready_read (g.W.View.stream c.args.stream.now) (kept_of c.self.inside.name c.self.inside.made c.self.inside.config c.self.inside.progress c.self.inside.pulls c.self.inside.mark) c.args.self.now c.moment-now.result c.args.listened true true _ _ c.self.view_is c.moment-now.ensures.value c.holds.ensures.consumer.no_pulls
      c.if-is_asked_by.ensures.value c.if-has_running_no_wait.ensures.value refl c.if-has_running_no_wait.true;
}

pub returns-else-has_running_no_wait : goal.returns-else-has_running_no_wait
returns-else-has_running_no_wait g c = record {
  value =
      ready_read (g.W.View.stream c.args.stream.now) (kept_of c.self.inside.name c.self.inside.made c.self.inside.config c.self.inside.progress c.self.inside.pulls c.self.inside.mark) c.args.self.now c.moment-now.result c.args.listened true false c.has_candidate_by.result _ c.self.view_is c.moment-now.ensures.value c.holds.ensures.consumer.no_pulls
      c.if-is_asked_by.ensures.value c.if-has_running_no_wait.ensures.value c.has_candidate_by.ensures.value refl;
}
