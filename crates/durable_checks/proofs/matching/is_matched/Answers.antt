use Rattle.std.proofs.Common.{map, sym, ap, subst, ◌∙◌}
use Rattle.js_model.specs.declared.consumer.Pending.{Pending}
use Rattle.durable_checks.specs.Parts.{Ascend}
use Rattle.durable_checks.proofs.Searching.{pending_ascends}
use Rattle.durable_checks.proofs.matching.is_matched.Goals as goal

pub are_matched-requires-then-are_matched : goal.are_matched-requires-then-are_matched
are_matched-requires-then-are_matched c =
    let is = c.as_slice-then-are_matched.ensures.value ∙ c.in_ok-pending.ensures.value ∙ ap (map (λ (p : Pending). p.seq)) c.as_slice.ensures in
    record { ascend = subst Ascend (sym is) (pending_ascends c.args.consumer.now c.requires.ascending) }
