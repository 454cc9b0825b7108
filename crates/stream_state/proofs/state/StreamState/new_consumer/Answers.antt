use Rattle.std.proofs.Common.{◌≡◌, None, Some, ap, min, subst, sym, ◌∙◌}
use Rattle.std.specs.Prelude.{unwrap_or}
use Rattle.js_model.specs.declared.stream.Stream.{Stream}
use Rattle.js_model.specs.declared.stream_config.StreamConfig.{StreamConfig}
use Rattle.js_model.specs.Consumers.{making_checks}
use Rattle.js_model.specs.Refusals.{first_refusal}
use Rattle.consumer_state.specs.Making.{own_checks, IsRefusal}
use Rattle.consumer_state.specs.declared.fault.MakeFault.TheVariants.{NoMemory}
use Rattle.stream_state.proofs.Refusing.{by_none, by_number, by_own, has_place, is_full, refused_as}
use Rattle.stream_state.proofs.state.StreamState.new_consumer.Goals as goal

pub returns-in_err-consumer-clause-refused : goal.returns-in_err-consumer-clause-refused
returns-in_err-consumer-clause-refused c =
    let s = c.args.self.now in
    let name = c.args.name.now in
    let config = c.args.config.now in
    let fault = c.in_err-consumer.field-0.0 in
    let own = subst (λ (x : Stream). IsRefusal (own_checks x config) fault) c.self.view_is c.in_err-consumer.ensures.refused in
    refused_as (making_checks s name config) fault _ c.from_residual-in_err-consumer.ensures.1 (by_own s name config (sym c.in_default.is ∙ c.in_ok-refusal.ensures.value) fault own)

pub returns-in_err-max_consumers_reached-clause-refused : goal.returns-in_err-max_consumers_reached-clause-refused
returns-in_err-max_consumers_reached-clause-refused c =
    refused_as (making_checks c.args.self.now c.args.name.now c.args.config.now) NoMemory _ c.from_residual-in_err-max_consumers_reached.ensures.1 tt

pub returns-then-max_consumers-consumer_count-clause-refused : goal.returns-then-max_consumers-consumer_count-clause-refused
returns-then-max_consumers-consumer_count-clause-refused c =
    let s = c.args.self.now in
    let name = c.args.name.now in
    let config = c.args.config.now in
    let allowed : first_refusal (own_checks s config) ≡ None = subst (λ (x : Stream). first_refusal (own_checks x config) ≡ None) c.self.view_is c.in_ok-consumer.ensures.allowed in
    let most = c.max_consumers.ensures.value ∙ ap (λ (k : StreamConfig). min (unwrap_or k.max_consumers 256) 256) (c.config.ensures.value ∙ ap (λ (x : Stream). x.config) c.self.view_is) in
    let full = is_full s name config c.max_consumers.result c.consumer_count.result most c.consumer_count.ensures.value c.if-max_consumers-consumer_count.true in
    by_number s name config (sym c.in_default.is ∙ c.in_ok-refusal.ensures.value) allowed full ∙ ap Some (sym c.in_ok-max_consumers_reached.ensures.value)

pub returns-clause-allowed : goal.returns-clause-allowed
returns-clause-allowed c =
    let s = c.args.self.now in
    let name = c.args.name.now in
    let config = c.args.config.now in
    let allowed : first_refusal (own_checks s config) ≡ None = subst (λ (x : Stream). first_refusal (own_checks x config) ≡ None) c.self.view_is c.in_ok-consumer.ensures.allowed in
    let most = c.max_consumers.ensures.value ∙ ap (λ (k : StreamConfig). min (unwrap_or k.max_consumers 256) 256) (c.config.ensures.value ∙ ap (λ (x : Stream). x.config) c.self.view_is) in
    let room = has_place s name config c.max_consumers.result c.consumer_count.result most c.consumer_count.ensures.value c.if-max_consumers-consumer_count.false in
    by_none s name config (sym c.in_default.is ∙ c.in_ok-refusal.ensures.value) allowed room
