use Rattle.std.proofs.Common.{◌≡◌, ◌<◌, ◌^◌, Some, true, false, sym, ap, ◌∙◌, arith}
use Rattle.js_model.specs.Streams.{passes_filter}
use Rattle.consumer_start.specs.Taking.{last_taken}
use Rattle.consumer_start.proofs.Walks.{by_subject}
use Rattle.consumer_start.proofs.WalksBack.{back_goes_on, back_smaller, back_stops, back_unseen, ends_at_first, walk_from_last}
use Rattle.consumer_start.proofs.taking.last_taken.Goals as goal

pub overflow_add-below : goal.overflow_add-below
overflow_add-below g c =
    let last : c.last-below.result ≡ (g.W.View.stream c.args.stream.now).last = c.last-below.ensures.value in
    let small : (g.W.View.stream c.args.stream.now).last < 2 ^ 62 = c.last-below.ensures.order.bound in
    omega arith

pub loop-below-init : goal.loop-below-init
loop-below-init g c = rw c.last-below.ensures.value (walk_from_last (λ m. passes_filter c.args.filter.now m.subject) (g.W.View.stream c.args.stream.now) c.last-below.ensures.order)

pub returns-in_err-head : goal.returns-in_err-head
returns-in_err-head g c = record { value = c.from_residual.ensures ∙ sym (back_unseen (λ m. passes_filter c.args.filter.now m.subject) (g.W.View.stream c.args.stream.now) (last_taken c.args.filter.now (g.W.View.stream c.args.stream.now)) c.loop-below.below c.loop-below.invariant (let l = c.loop-below-test.true in omega arith) c.in_err-head.ensures.value) }

pub returns-then-passes : goal.returns-then-passes
returns-then-passes g c = record {
  value = sym (back_stops (λ m. passes_filter c.args.filter.now m.subject) (g.W.View.stream c.args.stream.now) (last_taken c.args.filter.now (g.W.View.stream c.args.stream.now)) c.loop-below.below c.loop-below.invariant (let l = c.loop-below-test.true in omega arith) (record { seq = c.head.inside.seq; at = c.head.inside.at; subject = c.head.inside.subject.now; size = c.head.inside.size }) (ap Some c.head.view_is ∙ c.in_ok-head.ensures.value) (by_subject c.args.filter.now c.as_slice.result.now (record { seq = c.head.inside.seq; at = c.head.inside.at; subject = c.head.inside.subject.now; size = c.head.inside.size }) c.passes.result true c.as_slice.ensures c.passes.ensures.value c.if-passes.true));
}

pub loop-below-smaller : goal.loop-below-smaller
loop-below-smaller g c = back_smaller (λ m. passes_filter c.args.filter.now m.subject) (g.W.View.stream c.args.stream.now) (last_taken c.args.filter.now (g.W.View.stream c.args.stream.now)) c.loop-below.below c.loop-below.invariant (let l = c.loop-below-test.true in omega arith) (record { seq = c.head.inside.seq; at = c.head.inside.at; subject = c.head.inside.subject.now; size = c.head.inside.size }) (ap Some c.head.view_is ∙ c.in_ok-head.ensures.value)

pub loop-below-preserved : goal.loop-below-preserved
loop-below-preserved g c = back_goes_on (λ m. passes_filter c.args.filter.now m.subject) (g.W.View.stream c.args.stream.now) (last_taken c.args.filter.now (g.W.View.stream c.args.stream.now)) c.loop-below.below c.loop-below.invariant (let l = c.loop-below-test.true in omega arith) (record { seq = c.head.inside.seq; at = c.head.inside.at; subject = c.head.inside.subject.now; size = c.head.inside.size }) (ap Some c.head.view_is ∙ c.in_ok-head.ensures.value) c.last-below.ensures.order (by_subject c.args.filter.now c.as_slice.result.now (record { seq = c.head.inside.seq; at = c.head.inside.at; subject = c.head.inside.subject.now; size = c.head.inside.size }) c.passes.result false c.as_slice.ensures c.passes.ensures.value c.if-passes.false)

pub returns : goal.returns
returns g c = record { value = sym (ends_at_first (λ m. passes_filter c.args.filter.now m.subject) (g.W.View.stream c.args.stream.now) (last_taken c.args.filter.now (g.W.View.stream c.args.stream.now)) c.loop-below.below c.loop-below.invariant (omega arith)) }
