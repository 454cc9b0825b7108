use Rattle.std.proofs.Common.{◌≡◌, ◌∙◌, true, false, codes, refl, sym}
use Rattle.js_base.specs.Subjects.{is_pattern_text}
use Rattle.session.specs.Peer.{subscribing}
use Rattle.session.proofs.Asked.{subscribing_right, subscribing_wrong, told_wrong, asked_last, asked_one, stopped_as, unsaid}
use Rattle.session.proofs.asking.subscribe.Goals as goal

pub returns-in_err-write_fine-in-Ok-clause-asks : goal.returns-in_err-write_fine-in-Ok-clause-asks
returns-in_err-write_fine-in-Ok-clause-asks g c =
    let right : is_pattern_text c.args.subject.now ≡ true = rw c.as_slice.ensures at (sym c.check_pattern.ensures.ok ∙ c.if-is_err.ensures.negation) in
    stopped_as _ _ _ _ _ _ _ _ c.from_residual-in_err-write_fine-in-Ok.result _ c.from_residual-in_err-write_fine-in-Ok.ensures.1
    (unsaid _ _ _ _ _ _ _ _ _ (subscribing_right _ c.args.queue.now c.args.sid.now right)
    (rw (c.as_slice-2.ensures, c.text_of.ensures.value, c.as_slice-3.ensures) at c.in-Ok.ensures.made) refl)

pub returns-in_err-write_error-in-Err-TooManySubs-clause-asks : goal.returns-in_err-write_error-in-Err-TooManySubs-clause-asks
returns-in_err-write_error-in-Err-TooManySubs-clause-asks g c =
    let right : is_pattern_text c.args.subject.now ≡ true = rw c.as_slice.ensures at (sym c.check_pattern.ensures.ok ∙ c.if-is_err.ensures.negation) in
    stopped_as _ _ _ _ _ _ _ _ c.from_residual-in_err-write_error-in-Err-TooManySubs.result _ c.from_residual-in_err-write_error-in-Err-TooManySubs.ensures.1
    (unsaid _ _ _ _ _ _ _ _ _ (subscribing_right _ c.args.queue.now c.args.sid.now right)
    (rw (c.as_slice-2.ensures, c.text_of.ensures.value, c.as_slice-3.ensures, c.in-Err-TooManySubs.field-0-is) at c.in-Err-TooManySubs.ensures.made) refl)

pub returns-in_ok-write_fine-in-Ok-clause-asks : goal.returns-in_ok-write_fine-in-Ok-clause-asks
returns-in_ok-write_fine-in-Ok-clause-asks g c =
    let right : is_pattern_text c.args.subject.now ≡ true = rw c.as_slice.ensures at (sym c.check_pattern.ensures.ok ∙ c.if-is_err.ensures.negation) in
    asked_one _ _ _ _ _ _ _ c.args.manners.verbose c.args.manners.pedantic _ _ (subscribing_right _ c.args.queue.now c.args.sid.now right) tt
    (rw (c.as_slice-2.ensures, c.text_of.ensures.value, c.as_slice-3.ensures) at c.in-Ok.ensures.made) c.in_ok-write_fine-in-Ok.ensures.ok

pub returns-in_ok-write_error-in-Err-TooManySubs-clause-asks : goal.returns-in_ok-write_error-in-Err-TooManySubs-clause-asks
returns-in_ok-write_error-in-Err-TooManySubs-clause-asks g c =
    let right : is_pattern_text c.args.subject.now ≡ true = rw c.as_slice.ensures at (sym c.check_pattern.ensures.ok ∙ c.if-is_err.ensures.negation) in
    asked_one _ _ _ _ _ _ _ c.args.manners.verbose c.args.manners.pedantic _ _ (subscribing_right _ c.args.queue.now c.args.sid.now right) tt
    (rw (c.as_slice-2.ensures, c.text_of.ensures.value, c.as_slice-3.ensures, c.in-Err-TooManySubs.field-0-is) at c.in-Err-TooManySubs.ensures.made)
    c.in_ok-write_error-in-Err-TooManySubs.ensures.ok

pub returns-in-Err-clause-asks : goal.returns-in-Err-clause-asks
returns-in-Err-clause-asks g c =
    let right : is_pattern_text c.args.subject.now ≡ true = rw c.as_slice.ensures at (sym c.check_pattern.ensures.ok ∙ c.if-is_err.ensures.negation) in
    asked_last _ _ _ _ _ _ _ _ _ _ (subscribing_right _ c.args.queue.now c.args.sid.now right)
    (rw (c.as_slice-2.ensures, c.text_of.ensures.value, c.as_slice-3.ensures) at c.in-Err.ensures.made) c.from.ensures (λ n. refl)

pub returns-then-is_err-clause-asks : goal.returns-then-is_err-clause-asks
returns-then-is_err-clause-asks g c =
    let wrong : is_pattern_text c.args.subject.now ≡ false = rw c.as_slice.ensures at (sym c.check_pattern.ensures.ok ∙ c.if-is_err.ensures.negation) in
    told_wrong _ _ _ (subscribing c.args.subject.now c.args.queue.now c.args.sid.now) (codes "Invalid Subject") c.args.manners.verbose c.args.manners.pedantic _ _
    (subscribing_wrong c.args.subject.now c.args.queue.now c.args.sid.now wrong)
    (g.met.D.Desk.made_nothing c.args.desk.now) c.in_ok-write_error.ensures.ok
