use Rattle.std.proofs.Common.{ap, not, sym, ◌∙◌}
use Rattle.std.specs.List.{list_any}
use Rattle.js_model.specs.declared.consumer.Consumer.{Consumer}
use Rattle.js_model.specs.Advance.{is_over}
use Rattle.consumer_state.proofs.Currents.{asked_pull, asked_push}
use Rattle.consumer_state.proofs.consumer.Consumer.is_asked_by.Goals as goal

pub returns-then-is_push : goal.returns-then-is_push
returns-then-is_push c = record { value = asked_push c.args.now c.args.self.now c.args.listened (sym c.if-is_push.ensures.value) }

pub returns-else-is_push : goal.returns-else-is_push
returns-else-is_push c = record {
  value =
      c.has_running.ensures.value
      ∙ ap (λ (x : Consumer). list_any (λ p. not (is_over c.args.now p)) x.waiting) c.self.view_is
      ∙ asked_pull c.args.now c.args.self.now c.args.listened (sym c.if-is_push.ensures.value);
}
