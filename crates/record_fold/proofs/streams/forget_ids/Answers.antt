use Rattle.std.proofs.Common.{rules, tests, nat_lt, ap, ◌∙◌}
use Rattle.std.specs.Prelude.{filter}
use Rattle.std.proofs.lemmas.Fn.{filter_same}
use Rattle.js_base.specs.Moments.{plus}
use Rattle.js_model.specs.declared.stream.Id.{Id}
use Rattle.record_fold.proofs.streams.forget_ids.Goals as goal

pub returns : goal.returns
returns c =
    let test = λ (i : Id). nat_lt c.args.moment (plus i.at c.args.window) in
    record { left = c.from_vec.ensures ∙ filter_same _ test _ (λ x b f' k. search (rules, tests)) _ _ c.retain.ensures.filtered ∙ ap (filter test) c.take-known.ensures.items }
