use Rattle.std.proofs.Common.{◌≡◌, ◌<◌, ◌≤◌, ◌^◌, Some, true, false, refl, sym, ap, ◌∙◌, arith}
use Rattle.js_model.specs.Streams.{passes_filter}
use Rattle.consumer_start.specs.Taking.{next_taken}
use Rattle.consumer_start.proofs.Walks.{by_subject, ends_past, ends_unseen, goes_on, stops, within}
use Rattle.consumer_start.proofs.taking.next_taken.Goals as goal

pub loop-seq-init : goal.loop-seq-init
loop-seq-init g c = record { ahead = refl }

pub returns-in_err-head : goal.returns-in_err-head
returns-in_err-head g c = record { value = c.from_residual.ensures ∙ sym (ends_unseen (λ m. passes_filter c.args.filter.now m.subject) (g.W.View.stream c.args.stream.now) (next_taken c.args.filter.now (g.W.View.stream c.args.stream.now) c.args.from) c.loop-seq.seq c.loop-seq.invariant c.in_err-head.ensures.value) }

pub returns-then-passes : goal.returns-then-passes
returns-then-passes g c = record { value = sym (stops (λ m. passes_filter c.args.filter.now m.subject) (g.W.View.stream c.args.stream.now) (next_taken c.args.filter.now (g.W.View.stream c.args.stream.now) c.args.from) c.loop-seq.seq c.loop-seq.invariant (record { seq = c.head.inside.seq; at = c.head.inside.at; subject = c.head.inside.subject.now; size = c.head.inside.size }) (ap Some c.head.view_is ∙ c.in_ok-head.ensures.value) (by_subject c.args.filter.now c.as_slice.result.now (record { seq = c.head.inside.seq; at = c.head.inside.at; subject = c.head.inside.subject.now; size = c.head.inside.size }) c.passes.result true c.as_slice.ensures c.passes.ensures.value c.if-passes.true)) }

pub overflow_add-seq : goal.overflow_add-seq
overflow_add-seq g c =
    let bounds = within (λ m. passes_filter c.args.filter.now m.subject) (g.W.View.stream c.args.stream.now) (next_taken c.args.filter.now (g.W.View.stream c.args.stream.now) c.args.from) c.loop-seq.seq c.loop-seq.invariant (record { seq = c.head.inside.seq; at = c.head.inside.at; subject = c.head.inside.subject.now; size = c.head.inside.size }) (ap Some c.head.view_is ∙ c.in_ok-head.ensures.value) c.last-last.ensures.order in
    let from : c.loop-seq.seq ≤ c.head.inside.seq = bounds.0 in
    let to : c.head.inside.seq ≤ (g.W.View.stream c.args.stream.now).last = bounds.1 in
    let last : c.last-last.result ≡ (g.W.View.stream c.args.stream.now).last = c.last-last.ensures.value in
    let small : (g.W.View.stream c.args.stream.now).last < 2 ^ 62 = c.last-last.ensures.order.bound in
    omega arith

pub loop-seq-smaller : goal.loop-seq-smaller
loop-seq-smaller g c =
    let bounds = within (λ m. passes_filter c.args.filter.now m.subject) (g.W.View.stream c.args.stream.now) (next_taken c.args.filter.now (g.W.View.stream c.args.stream.now) c.args.from) c.loop-seq.seq c.loop-seq.invariant (record { seq = c.head.inside.seq; at = c.head.inside.at; subject = c.head.inside.subject.now; size = c.head.inside.size }) (ap Some c.head.view_is ∙ c.in_ok-head.ensures.value) c.last-last.ensures.order in
    let from : c.loop-seq.seq ≤ c.head.inside.seq = bounds.0 in
    let to : c.head.inside.seq ≤ (g.W.View.stream c.args.stream.now).last = bounds.1 in
    let last : c.last-last.result ≡ (g.W.View.stream c.args.stream.now).last = c.last-last.ensures.value in
    let small : (g.W.View.stream c.args.stream.now).last < 2 ^ 62 = c.last-last.ensures.order.bound in
    omega arith

pub loop-seq-preserved : goal.loop-seq-preserved
loop-seq-preserved g c = goes_on (λ m. passes_filter c.args.filter.now m.subject) (g.W.View.stream c.args.stream.now) (next_taken c.args.filter.now (g.W.View.stream c.args.stream.now) c.args.from) c.loop-seq.seq c.loop-seq.invariant (record { seq = c.head.inside.seq; at = c.head.inside.at; subject = c.head.inside.subject.now; size = c.head.inside.size }) (ap Some c.head.view_is ∙ c.in_ok-head.ensures.value) c.last-last.ensures.order (by_subject c.args.filter.now c.as_slice.result.now (record { seq = c.head.inside.seq; at = c.head.inside.at; subject = c.head.inside.subject.now; size = c.head.inside.size }) c.passes.result false c.as_slice.ensures c.passes.ensures.value c.if-passes.false)

pub returns : goal.returns
returns g c = record { value = sym (ends_past (λ m. passes_filter c.args.filter.now m.subject) (g.W.View.stream c.args.stream.now) (next_taken c.args.filter.now (g.W.View.stream c.args.stream.now) c.args.from) c.loop-seq.seq c.loop-seq.invariant c.last-last.ensures.order (let last : c.last-last.result ≡ (g.W.View.stream c.args.stream.now).last = c.last-last.ensures.value in omega arith)) }
