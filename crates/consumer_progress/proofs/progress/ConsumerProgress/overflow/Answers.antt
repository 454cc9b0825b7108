use Rattle.std.proofs.Common.{◌==◌, ◌<◌, ◌≤◌, not, sym, ap, ◌∙◌, length, arith}
use Rattle.std.proofs.lemmas.List.{length-map}
use Rattle.js_base.specs.Bytes.{last_of}
use Rattle.js_model.specs.declared.consumer.Pending.{Pending}
use Rattle.js_model.proofs.Parts.{filter_part}
use Rattle.consumer_progress.specs.Progresses.{seqs_of}
use Rattle.consumer_progress.proofs.Kept.{fewer_progress}
use Rattle.consumer_progress.proofs.Least.{dropped_overflow, first_dropped, last_rest, last_same, none_first}
use Rattle.consumer_progress.proofs.progress.ConsumerProgress.overflow.Goals as goal

pub invariant_of-self : goal.invariant_of-self
invariant_of-self c = rw c.drop_seq.ensures.seqs (fewer_progress _ _ (filter_part (λ n. not (n == c.in_ok-least.least)) (seqs_of c.self.inside.given_up)) c.self.invariant)

pub returns-clause-left : goal.returns-clause-left
returns-clause-left c =
    let given_up = c.self.inside.given_up in
    let many : 65536 < length (seqs_of given_up) = omega (arith, length-map given_up (λ (p : Pending). p.seq), c.len.ensures.value, c.if-len-le-MOST_GIVEN_UP.false) in
    rw (c.drop_seq.ensures.seqs, ← c.self.view_is) (dropped_overflow c.in_ok-least.least _ c.self.invariant many (sym c.in_ok-least.was ∙ c.first_seq.ensures.value))

pub returns-then-len-le-MOST_GIVEN_UP-clause-all : goal.returns-then-len-le-MOST_GIVEN_UP-clause-all
returns-then-len-le-MOST_GIVEN_UP-clause-all c =
    let given_up = c.self.inside.given_up in
    let few : length (seqs_of given_up) ≤ 65536 = omega (arith, length-map given_up (λ (p : Pending). p.seq), c.len.ensures.value, c.if-len-le-MOST_GIVEN_UP.true) in
    rw (← c.self.view_is) (λ e. last_same (seqs_of given_up) few)

pub returns-in_err-least-clause-all : goal.returns-in_err-least-clause-all
returns-in_err-least-clause-all c = rw (← c.self.view_is) (λ e. none_first (seqs_of c.self.inside.given_up) (sym c.in_err-least.was ∙ c.first_seq.ensures.value))

pub returns-clause-greatest : goal.returns-clause-greatest
returns-clause-greatest c =
    let given_up = c.self.inside.given_up in
    let many : 65536 < length (seqs_of given_up) = omega (arith, length-map given_up (λ (p : Pending). p.seq), c.len.ensures.value, c.if-len-le-MOST_GIVEN_UP.false) in
    rw (c.drop_seq.ensures.seqs, ← c.self.view_is)
    (ap (last_of 65536) (first_dropped c.in_ok-least.least 0 c.self.inside.cursor (seqs_of given_up) c.self.invariant.given_up (sym c.in_ok-least.was ∙ c.first_seq.ensures.value)) ∙ last_rest (seqs_of given_up) many)
