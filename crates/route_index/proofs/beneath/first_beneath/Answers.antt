use Rattle.route_index.proofs.Reaching.{head_is, stripped}
use Rattle.route_index.proofs.beneath.first_beneath.Goals as goal

pub returns-in-Some : goal.returns-in-Some
returns-in-Some c =
    let head = head_is c.args.ids.now c.args.path.now c.args.from.now c.range.result c.next.new.self (c.in-Some.pattern.now, c.in-Some.field-0-1.now) c.in-Some.ensures.steps (c.range.ensures.in_range tt) in
    record {
      value = stripped c.args.ids.now c.args.path.now c.args.from.now c.in-Some.pattern.now head c.requires.beneath c.as_slice.result.now c.as_slice-in-Some.result.now c.as_slice.ensures.value c.as_slice-in-Some.ensures.value
          c.strip_prefix.result c.strip_prefix.ensures.cases;
    }
