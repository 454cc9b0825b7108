use Rattle.std.proofs.Common.{◌≡◌, Option, ap, sym, subst}
use Rattle.std.specs.Prelude.{IfOk, option_map}
use Rattle.js_model.specs.declared.consumer.Consumer.{Consumer}
use Rattle.js_model.specs.Counts.{consumer_info}
use Rattle.stream_state.proofs.state.StreamState.consumer_info.Goals as goal

pub returns-in-Some : goal.returns-in-Some
returns-in-Some c =
    let s = c.self.inside.stream in
    record {
      value = rw (← c.self.view_is)
          (subst (λ (o : Option Consumer). IfOk c.info_at.result (λ told. told ≡ option_map (consumer_info s) o)) c.in-Some.ensures.value.found c.info_at.ensures.value);
    }

pub returns-in-None : goal.returns-in-None
returns-in-None c = record { value = rw (← c.self.view_is) (ap (option_map (consumer_info c.self.inside.stream)) (sym c.in-None.ensures.value)) }
