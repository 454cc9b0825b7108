use Rattle.retention.proofs.Walking.{none_without_limit, told, ahead_at_first, none_ahead, none_past_last, stops, goes_on, within}
use Rattle.std.proofs.Common.{is_some, arith, ap, sym, ◌∙◌, Some, ◌≡◌, option_map, ◌^◌, ◌<◌, ◌≤◌, true, false}
use Rattle.retention.proofs.limits.over_subject.Goals as goal

pub returns-then-is_none : goal.returns-then-is_none
returns-then-is_none g c = record { value = sym (ap (option_map (λ m. m.seq)) (none_without_limit (g.W.View.stream c.args.view.now) (ap (λ config. is_some config.max_msgs_per_subject) (sym c.config.ensures.value) ∙ c.if-is_none.ensures))) }

pub loop-seq-init : goal.loop-seq-init
loop-seq-init g c = ahead_at_first (g.W.View.stream c.args.view.now) c.last-last.ensures.order

pub returns-in_err-head : goal.returns-in_err-head
returns-in_err-head g c = record { value = c.from_residual.ensures ∙ sym (ap (option_map (λ m. m.seq)) (none_ahead (g.W.View.stream c.args.view.now) c.loop-seq.seq c.loop-seq.invariant c.in_err-head.ensures.value)) }

pub returns-then-is_some : goal.returns-then-is_some
returns-then-is_some g c = record {
  value = stops (g.W.View.stream c.args.view.now) c.last-last.ensures.order c.loop-seq.seq c.loop-seq.invariant (record { seq = c.head.inside.seq; at = c.head.inside.at; subject = c.head.inside.subject.now; size = c.head.inside.size }) (ap Some c.head.view_is ∙ c.in_ok-head.ensures.value)
      (told (g.W.View.stream c.args.view.now) c.head.inside.subject.now c.as_slice.result.now c.over_on.result true c.as_slice.ensures c.over_on.ensures.value (sym c.if-is_some.ensures));
}

pub overflow_add-seq : goal.overflow_add-seq
overflow_add-seq g c =
    let bounds = within (g.W.View.stream c.args.view.now) c.last-last.ensures.order c.loop-seq.seq c.loop-seq.invariant (record { seq = c.head.inside.seq; at = c.head.inside.at; subject = c.head.inside.subject.now; size = c.head.inside.size }) (ap Some c.head.view_is ∙ c.in_ok-head.ensures.value) in
    let from : c.loop-seq.seq ≤ c.head.inside.seq = bounds.0 in
    let to : c.head.inside.seq ≤ (g.W.View.stream c.args.view.now).last = bounds.1 in
    let last : c.last-last.result ≡ (g.W.View.stream c.args.view.now).last = c.last-last.ensures.value in
    let small : (g.W.View.stream c.args.view.now).last < 2 ^ 62 = c.last-last.ensures.order.bound in
    omega arith

pub loop-seq-smaller : goal.loop-seq-smaller
loop-seq-smaller g c =
    let bounds = within (g.W.View.stream c.args.view.now) c.last-last.ensures.order c.loop-seq.seq c.loop-seq.invariant (record { seq = c.head.inside.seq; at = c.head.inside.at; subject = c.head.inside.subject.now; size = c.head.inside.size }) (ap Some c.head.view_is ∙ c.in_ok-head.ensures.value) in
    let from : c.loop-seq.seq ≤ c.head.inside.seq = bounds.0 in
    let to : c.head.inside.seq ≤ (g.W.View.stream c.args.view.now).last = bounds.1 in
    let last : c.last-last.result ≡ (g.W.View.stream c.args.view.now).last = c.last-last.ensures.value in
    let small : (g.W.View.stream c.args.view.now).last < 2 ^ 62 = c.last-last.ensures.order.bound in
    omega arith

pub loop-seq-preserved : goal.loop-seq-preserved
loop-seq-preserved g c = goes_on (g.W.View.stream c.args.view.now) c.last-last.ensures.order c.loop-seq.seq c.loop-seq.invariant (record { seq = c.head.inside.seq; at = c.head.inside.at; subject = c.head.inside.subject.now; size = c.head.inside.size }) (ap Some c.head.view_is ∙ c.in_ok-head.ensures.value)
    (told (g.W.View.stream c.args.view.now) c.head.inside.subject.now c.as_slice.result.now c.over_on.result false c.as_slice.ensures c.over_on.ensures.value (sym c.if-is_some.ensures))

pub returns : goal.returns
returns g c = record { value = sym (ap (option_map (λ m. m.seq)) (none_past_last (g.W.View.stream c.args.view.now) c.loop-seq.seq c.last-last.ensures.order c.loop-seq.invariant (let last : c.last-last.result ≡ (g.W.View.stream c.args.view.now).last = c.last-last.ensures.value in omega arith))) }
