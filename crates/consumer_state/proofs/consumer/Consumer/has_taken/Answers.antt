use Rattle.std.proofs.Common.{◌∙◌}
use Rattle.consumer_state.specs.Keeping.{kept_of}
use Rattle.consumer_state.proofs.Currents.{taken_some}
use Rattle.consumer_state.proofs.Offers.{taken_told}
use Rattle.consumer_state.proofs.consumer.Consumer.has_taken.Goals as goal

pub returns : goal.returns
returns g c = record {
  value =
      c.is_some.ensures
      ∙ taken_some (g.W.View.stream c.args.stream.now) c.args.self.now c.next_taken.result
      (taken_told (g.W.View.stream c.args.stream.now) (kept_of c.self.inside.name c.self.inside.made c.self.inside.config c.self.inside.progress c.self.inside.pulls c.self.inside.mark) c.args.self.now c.as_slice-filter.result.now c.cursor.result c.next_taken.result c.self.view_is c.as_slice-filter.ensures c.cursor.ensures.value c.next_taken.ensures.value);
}
