use Rattle.std.proofs.Common.{ap, sym, ◌∙◌}
use Rattle.js_model.specs.declared.consumer.Consumer.{Consumer}
use Rattle.consumer_progress.specs.Progresses.{first_of}
use Rattle.consumer_state.proofs.Offers.{pick_among, taken_among, taken_told}
use Rattle.consumer_state.specs.Keeping.{kept_of}
use Rattle.consumer_state.proofs.consumer.Consumer.next.Goals as goal

pub returns-in-Some : goal.returns-in-Some
returns-in-Some g c = record { among = pick_among (g.W.View.stream c.args.stream.now) c.args.self.now (sym c.if-not-may_wait.ensures.value) c.in-Some.pick c.requires.current.stored.picks (sym c.in-Some.is ∙ c.first_pick.ensures.value ∙ ap (λ (x : Consumer). first_of x.picks) c.self.view_is) }

pub returns-in-None-2 : goal.returns-in-None-2
returns-in-None-2 g c = record {
  among =
      taken_among (g.W.View.stream c.args.stream.now) c.args.self.now (sym c.if-not-may_wait.ensures.value) (sym c.in-None-2.is ∙ c.first_pick.ensures.value ∙ ap (λ (x : Consumer). first_of x.picks) c.self.view_is) c.next_taken.result
      (taken_told (g.W.View.stream c.args.stream.now) (kept_of c.self.inside.name c.self.inside.made c.self.inside.config c.self.inside.progress c.self.inside.pulls c.self.inside.mark) c.args.self.now c.as_slice.result.now c.cursor.result c.next_taken.result c.self.view_is c.as_slice.ensures c.cursor.ensures.value c.next_taken.ensures.value);
}
