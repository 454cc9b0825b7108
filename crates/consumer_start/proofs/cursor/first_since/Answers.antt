use Rattle.std.proofs.Common.{◌≡◌, ◌+◌, ◌<◌, ◌≤◌, ◌^◌, Some, true, false, refl, sym, ap, ◌∙◌, arith}
use Rattle.std.specs.Prelude.{find, nat_le, option_map}
use Rattle.std.proofs.lemmas.Bool.{le-leb, lt-leb}
use Rattle.consumer_start.proofs.Walks.{all_from_low, by_moment, ends_past, ends_unseen, goes_on, stops, within}
use Rattle.consumer_start.proofs.cursor.first_since.Goals as goal

pub loop-seq-init : goal.loop-seq-init
loop-seq-init g c = record { ahead = sym (ap (option_map (λ m. m.seq)) (all_from_low (λ m. nat_le c.args.at m.at) 0 1 ((g.W.View.stream c.args.stream.now).last + 1) (g.W.View.stream c.args.stream.now).messages c.last-last.ensures.order.ascends (omega arith))) }

pub returns-in_err-head : goal.returns-in_err-head
returns-in_err-head g c = record { value = c.from_residual.ensures ∙ sym (ends_unseen (λ m. nat_le c.args.at m.at) (g.W.View.stream c.args.stream.now) (option_map (λ m. m.seq) (find (λ m. nat_le c.args.at m.at) (g.W.View.stream c.args.stream.now).messages)) c.loop-seq.seq c.loop-seq.invariant c.in_err-head.ensures.value) }

pub returns-then-as_nanos : goal.returns-then-as_nanos
returns-then-as_nanos g c = record { value = sym (stops (λ m. nat_le c.args.at m.at) (g.W.View.stream c.args.stream.now) (option_map (λ m. m.seq) (find (λ m. nat_le c.args.at m.at) (g.W.View.stream c.args.stream.now).messages)) c.loop-seq.seq c.loop-seq.invariant (record { seq = c.head.inside.seq; at = c.head.inside.at; subject = c.head.inside.subject.now; size = c.head.inside.size }) (ap Some c.head.view_is ∙ c.in_ok-head.ensures.value) (by_moment c.args.at c.head.inside.at (record { seq = c.head.inside.seq; at = c.head.inside.at; subject = c.head.inside.subject.now; size = c.head.inside.size }) true refl (le-leb c.args.at c.head.inside.at (omega arith)))) }

pub overflow_add-seq : goal.overflow_add-seq
overflow_add-seq g c =
    let bounds = within (λ m. nat_le c.args.at m.at) (g.W.View.stream c.args.stream.now) (option_map (λ m. m.seq) (find (λ m. nat_le c.args.at m.at) (g.W.View.stream c.args.stream.now).messages)) c.loop-seq.seq c.loop-seq.invariant (record { seq = c.head.inside.seq; at = c.head.inside.at; subject = c.head.inside.subject.now; size = c.head.inside.size }) (ap Some c.head.view_is ∙ c.in_ok-head.ensures.value) c.last-last.ensures.order in
    let from : c.loop-seq.seq ≤ c.head.inside.seq = bounds.0 in
    let to : c.head.inside.seq ≤ (g.W.View.stream c.args.stream.now).last = bounds.1 in
    let last : c.last-last.result ≡ (g.W.View.stream c.args.stream.now).last = c.last-last.ensures.value in
    let small : (g.W.View.stream c.args.stream.now).last < 2 ^ 62 = c.last-last.ensures.order.bound in
    omega arith

pub loop-seq-smaller : goal.loop-seq-smaller
loop-seq-smaller g c =
    let bounds = within (λ m. nat_le c.args.at m.at) (g.W.View.stream c.args.stream.now) (option_map (λ m. m.seq) (find (λ m. nat_le c.args.at m.at) (g.W.View.stream c.args.stream.now).messages)) c.loop-seq.seq c.loop-seq.invariant (record { seq = c.head.inside.seq; at = c.head.inside.at; subject = c.head.inside.subject.now; size = c.head.inside.size }) (ap Some c.head.view_is ∙ c.in_ok-head.ensures.value) c.last-last.ensures.order in
    let from : c.loop-seq.seq ≤ c.head.inside.seq = bounds.0 in
    let to : c.head.inside.seq ≤ (g.W.View.stream c.args.stream.now).last = bounds.1 in
    let last : c.last-last.result ≡ (g.W.View.stream c.args.stream.now).last = c.last-last.ensures.value in
    let small : (g.W.View.stream c.args.stream.now).last < 2 ^ 62 = c.last-last.ensures.order.bound in
    omega arith

pub loop-seq-preserved : goal.loop-seq-preserved
loop-seq-preserved g c = goes_on (λ m. nat_le c.args.at m.at) (g.W.View.stream c.args.stream.now) (option_map (λ m. m.seq) (find (λ m. nat_le c.args.at m.at) (g.W.View.stream c.args.stream.now).messages)) c.loop-seq.seq c.loop-seq.invariant (record { seq = c.head.inside.seq; at = c.head.inside.at; subject = c.head.inside.subject.now; size = c.head.inside.size }) (ap Some c.head.view_is ∙ c.in_ok-head.ensures.value) c.last-last.ensures.order (by_moment c.args.at c.head.inside.at (record { seq = c.head.inside.seq; at = c.head.inside.at; subject = c.head.inside.subject.now; size = c.head.inside.size }) false refl (lt-leb c.args.at c.head.inside.at (omega arith)))

pub returns : goal.returns
returns g c = record { value = sym (ends_past (λ m. nat_le c.args.at m.at) (g.W.View.stream c.args.stream.now) (option_map (λ m. m.seq) (find (λ m. nat_le c.args.at m.at) (g.W.View.stream c.args.stream.now).messages)) c.loop-seq.seq c.loop-seq.invariant c.last-last.ensures.order (let last : c.last-last.result ≡ (g.W.View.stream c.args.stream.now).last = c.last-last.ensures.value in omega arith)) }
