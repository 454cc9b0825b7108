use Rattle.std.proofs.Common.{◌∙◌, sym, ap}
use Rattle.std.specs.List.{starts_with}
use Rattle.std.specs.Prelude.{nat_eq}
use Rattle.route_index.proofs.Fronts.{bare_at_end, bare_before, first_in_range, on_false}
use Rattle.route_index.proofs.ids.begins_some.Goals as goal

pub returns-in-None : goal.returns-in-None
returns-in-None c = record { bare = bare_at_end c.args.ids.now c.args.front.now ((c.range.ensures.in_range tt).5 c.in-None.ensures.steps.0) }

pub returns-in-Some : goal.returns-in-Some
returns-in-Some c =
    let found = first_in_range c.args.ids.now c.args.front.now c.range.result c.next.new.self (c.in-Some.pattern.now, c.in-Some.field-0-1.now) c.in-Some.ensures.steps (c.range.ensures.in_range tt) in
    record {
      bare = on_false c.starts_with.result (λ e. bare_before c.args.ids.now c.args.front.now c.in-Some.pattern.now
          (sym (c.starts_with.ensures.value ∙ ap (λ t. starts_with nat_eq t c.as_slice-in-Some.result.now) c.as_slice.ensures.value ∙ ap (λ t. starts_with nat_eq c.in-Some.pattern.now t) c.as_slice-in-Some.ensures.value) ∙ e)
          found.0 found.1);
    }
