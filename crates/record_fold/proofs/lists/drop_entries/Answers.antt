use Rattle.std.proofs.Common.{rules, tests, not, ap, ◌∙◌}
use Rattle.std.specs.Prelude.{filter}
use Rattle.std.proofs.lemmas.Fn.{filter_same}
use Rattle.js_model.specs.declared.consumer.Pending.{Pending}
use Rattle.effects.specs.Ranges.{is_within}
use Rattle.record_fold.proofs.lists.drop_entries.Goals as goal

pub returns : goal.returns
returns c =
    let test = λ (p : Pending). not (is_within c.args.low c.args.high p.seq) in
    record { left = c.from_vec.ensures ∙ filter_same _ test _ (λ x b f' k. search (rules, tests)) _ _ c.retain.ensures.filtered ∙ ap (filter test) c.take-kept.ensures.items }
