use Rattle.std.proofs.Common.{◌≡◌, ◌&&◌, Bool, Some, true, false, ap, refl, sym, ◌∙◌}
use Rattle.std.specs.List.{list_any}
use Rattle.js_model.specs.declared.stream_config.StreamConfig.{StreamConfig}
use Rattle.js_model.specs.declared.stream_config.Retention.TheVariants.{WorkQueue as Queue}
use Rattle.js_model.specs.Configs.{same_retention}
use Rattle.js_model.specs.Consumers.{is_rival, is_work_queue}
use Rattle.stream_state.proofs.Refusing.{none_refused, rival_refused, rivals_as}
use Rattle.stream_state.proofs.state.StreamState.queue_refusal.Goals.{else-is_queue-via-then-is_queue+else-has_rival, else-is_queue-via-else-is_queue}
use Rattle.stream_state.proofs.state.StreamState.queue_refusal.Goals as goal

and_false : (b : Bool) → (b && false) ≡ false
and_false true = refl
and_false false = refl

pub returns-then-has_rival : goal.returns-then-has_rival
returns-then-has_rival c =
    let s = c.self.inside.stream in
    let name = c.args.name.now in
    let config = c.args.config.now in
    let passed = sym c.in_ok-refusal.ensures.value ∙ c.in_default.is in
    let queue : is_work_queue s ≡ true = sym (c.is_work_queue-is_queue.ensures.value ∙ ap (λ (k : StreamConfig). same_retention k.retention Queue) c.config.ensures.value) ∙ c.if-is_queue.true in
    let rival : list_any (is_rival name config) s.consumers ≡ true = sym (rivals_as s name config c.followers.result.now c.followers.ensures.value) ∙ sym c.has_rival.ensures.value ∙ c.if-has_rival.true in
    let both = ap (λ b. b && list_any (is_rival name config) s.consumers) queue ∙ rival in
    record { value = rw (← c.self.view_is) (ap Some c.in_ok-work_queue_rule.ensures.value ∙ sym (rival_refused s name config passed both)) }

pub returns : goal.returns
returns c =
    let s = c.self.inside.stream in
    let name = c.args.name.now in
    let config = c.args.config.now in
    let passed = sym c.in_ok-refusal.ensures.value ∙ c.in_default.is in
    let is = c.is_work_queue-is_queue.ensures.value ∙ ap (λ (k : StreamConfig). same_retention k.retention Queue) c.config.ensures.value in
    let either : (is_work_queue s && list_any (is_rival name config) s.consumers) ≡ false =
    elim c.else-is_queue.branch [
      | else-is_queue-via-then-is_queue+else-has_rival w ↦
          ap (λ b. is_work_queue s && b) (sym (rivals_as s name config w.followers.result.now w.followers.ensures.value) ∙ sym w.has_rival.ensures.value ∙ w.if-has_rival.false) ∙ and_false (is_work_queue s)
      | else-is_queue-via-else-is_queue w ↦ ap (λ b. b && list_any (is_rival name config) s.consumers) (sym is ∙ w.if-is_queue.false)
    ] in
    record { value = rw (← c.self.view_is) (sym (none_refused s name config passed either)) }
