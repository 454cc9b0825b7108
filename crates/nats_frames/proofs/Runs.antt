-- Laws of whole inputs.
use Rattle.std.proofs.Common.{◌≡◌, List, [], ◌∷◌, ◌++◌, refl, sym, ◌∙◌, ap, subst, append_assoc}
use Rattle.std.proofs.lemmas.List.{append_cancel_right}
use Rattle.js_base.specs.Bytes.{Bytes}
use Rattle.nats_frames.specs.declared.op.Op.{Op}
use Rattle.nats_frames.specs.declared.fault.Fault.{Fault}
use Rattle.nats_frames.specs.Grammar.{BeginsNone, Fronts, IsFaulty}
use Rattle.nats_frames.specs.Reading.{Reading, Whole, Partial, Broken, op_at}
use Rattle.nats_frames.specs.Laws.{LawRead, LawSpelled, LawFaulty, LawPartial, LawOne, LawOneFault, LawApart, LawWhole, LawBroken, LawOps, LawJoin}
use Rattle.nats_frames.proofs.Founds.{op_found}
use Rattle.nats_frames.proofs.Readings.{op_again}
use Rattle.nats_frames.proofs.Faulty.{faulty_found, faulty_again}
use Rattle.nats_frames.proofs.Lasting.{faulty_on}

pub read : LawRead
read bytes op rest e = let found = op_found bytes op rest e in (found.front, found.spelled, found.whole)

pub spelled : LawSpelled
spelled = op_again

pub faulty : LawFaulty
faulty bytes fault = (faulty_found bytes fault, faulty_again bytes fault)

pub whole : LawWhole
whole bytes op rest more e =
    let found = op_found bytes op rest e in
    ap op_at (ap (λ b. b ++ more) found.whole ∙ append_assoc found.front rest more) ∙ op_again op found.front (rest ++ more) found.spelled

pub broken : LawBroken
broken bytes more fault e = faulty_again (bytes ++ more) fault (faulty_on bytes more fault (faulty_found bytes fault e))

pub one : LawOne
one op other front rest front_of rest_of h k e =
    let same : Whole op rest ≡ Whole other rest_of = sym (op_again op front rest h) ∙ ap op_at e ∙ op_again other front_of rest_of k in
    let rest_is : rest ≡ rest_of = cc in (
      cc,
      append_cancel_right front front_of rest_of (ap (λ r. front ++ r) (sym rest_is) ∙ e),
      rest_is,
    )

pub one_fault : LawOneFault
one_fault bytes fault other h k = let same : Broken fault ≡ Broken other = sym (faulty_again bytes fault h) ∙ faulty_again bytes other k in cc

pub apart : LawApart
apart bytes fault h op front more spelled is =
    let clash : Broken fault ≡ Whole op more = sym (faulty_again bytes fault h) ∙ ap op_at is ∙ op_again op front more spelled in absurd (cc)

partial_from : (bytes : Bytes) (r : Reading) → op_at bytes ≡ r → BeginsNone bytes → ((fault : Fault) → IsFaulty fault bytes → ⊥) → r ≡ Partial
partial_from bytes (Whole op rest) e none sound = let found = op_found bytes op rest e in absurd (none op found.front rest found.spelled found.whole)
partial_from bytes Partial e none sound = refl
partial_from bytes (Broken fault) e none sound = absurd (sound fault (faulty_found bytes fault e))

pub partial : LawPartial
partial bytes = (
  λ e. (
    λ op front more h is. let clash : Partial ≡ Whole op more = sym e ∙ ap op_at is ∙ op_again op front more h in absurd (cc),
    λ fault h. let clash : Partial ≡ Broken fault = sym e ∙ faulty_again bytes fault h in absurd (cc),
  ),
  λ h. partial_from bytes (op_at bytes) refl h.0 h.1,
)

pub ops : LawOps
ops bytes [] [] rest rest_of h k = (refl, sym h.0 ∙ k.0)
ops bytes [] (op ∷ others) rest rest_of h k = absurd (h.1 op k.0.0 k.0.1 k.0.2 (sym h.0 ∙ k.0.3))
ops bytes (op ∷ some) [] rest rest_of h k = absurd (k.1 op h.0.0 h.0.1 h.0.2 (sym k.0 ∙ h.0.3))
ops bytes (op ∷ some) (other ∷ others) rest rest_of h k =
    let first = one op other h.0.0 h.0.1 k.0.0 k.0.1 h.0.2 k.0.2 (sym h.0.3 ∙ k.0.3) in
    let later = ops h.0.1 some others rest rest_of (h.0.4, h.1) (subst (λ (b : Bytes). Fronts b others rest_of) (sym first.2) k.0.4, k.1) in
    (let op_is = first.0 in let some_is = later.0 in cc, later.1)

join_fronts : (bytes : Bytes) (some : List Op) (rest more : Bytes) (later : List Op) (last : Bytes) → Fronts bytes some rest → Fronts (rest ++ more) later last → Fronts (bytes ++ more) (some ++ later) last
join_fronts bytes [] rest more later last h k = subst (λ (b : Bytes). Fronts (b ++ more) later last) (sym h) k
join_fronts bytes (op ∷ some) rest more later last h k = (
  h.0,
  h.1 ++ more,
  h.2,
  ap (λ b. b ++ more) h.3 ∙ append_assoc h.0 h.1 more,
  join_fronts h.1 some rest more later last h.4 k,
)

pub join : LawJoin
join bytes some rest more later last h k = (join_fronts bytes some rest more later last h k.0, k.1)
