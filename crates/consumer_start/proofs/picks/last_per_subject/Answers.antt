use Rattle.std.proofs.Common.{◌≡◌, ◌<◌, ◌≤◌, ◌^◌, Some, length, sym, ap, ◌∙◌, arith}
use Rattle.stream_view.specs.Heads.{MessageHead}
use Rattle.consumer_start.specs.Picking.{is_pick}
use Rattle.consumer_start.proofs.Picking.{at_first, bounds, when_many, when_passed, when_past, when_picked, when_unseen}
use Rattle.consumer_start.proofs.picks.last_per_subject.Goals as goal
use Rattle.consumer_start.proofs.picks.last_per_subject.Goals.{then-is_pick+else-len-eq-MOST_PICKS+in_ok-push, else-is_pick, else-loop-seq-test, then-loop-seq-test+in_default}

pub loop-seq-init : goal.loop-seq-init
loop-seq-init g c = rw c.new-picks.ensures (at_first (g.W.View.stream c.args.stream.now) c.args.filter.now c.last-last.ensures.order)

pub returns-then-len-eq-MOST_PICKS : goal.returns-then-len-eq-MOST_PICKS
returns-then-len-eq-MOST_PICKS g c =
    let k : c.len.result ≡ length c.loop-seq.picks = c.len.ensures in
    let many : length c.loop-seq.picks ≡ 65536 = omega arith in
    record { picks = when_many (g.W.View.stream c.args.stream.now) c.args.filter.now c.last-last.ensures.order c.loop-seq.seq c.loop-seq.picks c.loop-seq.invariant (record { seq = c.head.inside.seq; at = c.head.inside.at; subject = c.head.inside.subject.now; size = c.head.inside.size }) (ap Some c.head.view_is ∙ sym c.in-Some.is ∙ c.at_or_after.ensures.value) (ap (λ (h : MessageHead). is_pick (g.W.View.stream c.args.stream.now) c.args.filter.now h.subject h.seq) c.head.view_is ∙ sym c.is_pick.ensures.value ∙ c.if-is_pick.true) many }

pub overflow_add-seq : goal.overflow_add-seq
overflow_add-seq g c =
    let bound = bounds (g.W.View.stream c.args.stream.now) c.loop-seq.seq (record { seq = c.head.inside.seq; at = c.head.inside.at; subject = c.head.inside.subject.now; size = c.head.inside.size }) c.last-last.ensures.order (ap Some c.head.view_is ∙ sym c.in-Some.is ∙ c.at_or_after.ensures.value) in
    let from : c.loop-seq.seq ≤ c.head.inside.seq = bound.0 in
    let to : c.head.inside.seq ≤ (g.W.View.stream c.args.stream.now).last = bound.1 in
    let last : c.last-last.result ≡ (g.W.View.stream c.args.stream.now).last = c.last-last.ensures.value in
    let small : (g.W.View.stream c.args.stream.now).last < 2 ^ 62 = c.last-last.ensures.order.bound in
    omega arith

pub loop-seq-smaller : goal.loop-seq-smaller
loop-seq-smaller g c =
    let bound = bounds (g.W.View.stream c.args.stream.now) c.loop-seq.seq (record { seq = c.head.inside.seq; at = c.head.inside.at; subject = c.head.inside.subject.now; size = c.head.inside.size }) c.last-last.ensures.order (ap Some c.head.view_is ∙ sym c.in-Some.is ∙ c.at_or_after.ensures.value) in
    let from : c.loop-seq.seq ≤ c.head.inside.seq = bound.0 in
    let to : c.head.inside.seq ≤ (g.W.View.stream c.args.stream.now).last = bound.1 in
    let last : c.last-last.result ≡ (g.W.View.stream c.args.stream.now).last = c.last-last.ensures.value in
    let small : (g.W.View.stream c.args.stream.now).last < 2 ^ 62 = c.last-last.ensures.order.bound in
    omega arith

pub loop-seq-preserved : goal.loop-seq-preserved
loop-seq-preserved g c = elim c.if-is_pick.branch [
  | then-is_pick+else-len-eq-MOST_PICKS+in_ok-push w ↦
      let k : w.len.result ≡ length c.loop-seq.picks = w.len.ensures in
      let few : length c.loop-seq.picks ≤ 65536 = c.loop-seq.invariant.few in
      let most = w.if-len-eq-MOST_PICKS.false in
      let l : length c.loop-seq.picks < 65536 = omega arith in
      rw (w.picks-is, w.in_ok-push.ensures.ok) (when_picked (g.W.View.stream c.args.stream.now) c.args.filter.now c.last-last.ensures.order c.loop-seq.seq c.loop-seq.picks c.loop-seq.invariant (record { seq = c.head.inside.seq; at = c.head.inside.at; subject = c.head.inside.subject.now; size = c.head.inside.size }) (ap Some c.head.view_is ∙ sym c.in-Some.is ∙ c.at_or_after.ensures.value) (ap (λ (h : MessageHead). is_pick (g.W.View.stream c.args.stream.now) c.args.filter.now h.subject h.seq) c.head.view_is ∙ sym c.is_pick.ensures.value ∙ w.if-is_pick.true) l)
  | else-is_pick w ↦ rw w.picks-is (when_passed (g.W.View.stream c.args.stream.now) c.args.filter.now c.last-last.ensures.order c.loop-seq.seq c.loop-seq.picks c.loop-seq.invariant (record { seq = c.head.inside.seq; at = c.head.inside.at; subject = c.head.inside.subject.now; size = c.head.inside.size }) (ap Some c.head.view_is ∙ sym c.in-Some.is ∙ c.at_or_after.ensures.value) (ap (λ (h : MessageHead). is_pick (g.W.View.stream c.args.stream.now) c.args.filter.now h.subject h.seq) c.head.view_is ∙ sym c.is_pick.ensures.value ∙ w.if-is_pick.false))
]

pub returns : goal.returns
returns g c = elim c.loop-seq-test.branch [
  | else-loop-seq-test w ↦
      let last : c.last-last.result ≡ (g.W.View.stream c.args.stream.now).last = c.last-last.ensures.value in
      let past = w.loop-seq-test.false in
      record { picks = when_past (g.W.View.stream c.args.stream.now) c.args.filter.now c.last-last.ensures.order c.loop-seq.seq c.loop-seq.picks c.loop-seq.invariant (omega arith) }
  | then-loop-seq-test+in_default w ↦ record { picks = when_unseen (g.W.View.stream c.args.stream.now) c.args.filter.now c.last-last.ensures.order c.loop-seq.seq c.loop-seq.picks c.loop-seq.invariant (sym w.in_default.is ∙ w.at_or_after.ensures.value) }
]
