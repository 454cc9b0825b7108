use Rattle.std.proofs.Common.{ℕ, List, sym, subst, ◌∙◌}
use Rattle.js_model.specs.declared.stream.Message.{Message}
use Rattle.effects.specs.Restorable.{Rises}
use Rattle.durable_checks.proofs.Rising.{rises_mapped, rises_from}
use Rattle.durable_checks.proofs.times.messages_rise.Goals as goal

pub returns : goal.returns
returns c =
    let messages = c.args.messages.now in
    let latest = c.args.latest in
    let at = λ (m : Message). m.at in
    let is = c.as_slice.ensures.value ∙ c.in_ok-moments.ensures.value in
    let rise = c.rise.ensures.value in
    record {
      value = (
        λ e. rises_from at 0 latest messages (subst (λ (l : List ℕ). Rises (λ n. n) 0 latest l) is (rise.0 e)),
        λ r. rise.1 (subst (λ (l : List ℕ). Rises (λ n. n) 0 latest l) (sym is) (rises_mapped at 0 latest messages r)),
      );
    }
