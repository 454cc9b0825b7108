-- The first operation is taken off, and its bytes are no longer held.
use Rattle.std.proofs.Common.{ℕ, ◌≡◌, ◌+◌, ◌++◌, length, take, drop, sym, subst, ◌∙◌, ap, arith, length-append}
use Rattle.std.proofs.lemmas.List.{append_cancel_right, take-append-drop}
use Rattle.js_base.specs.Bytes.{Bytes}
use Rattle.nats_frames.specs.declared.op.Op.{Op}
use Rattle.nats_frames.specs.declared.look.Look.TheVariants as looks
use Rattle.nats_frames.specs.declared.shape.Shape.{Shape}
use Rattle.nats_frames.specs.Grammar.{Spells}
use Rattle.nats_frames.specs.Reading.{Whole, op_at}
use Rattle.nats_frames.specs.Shapes.{op_in, Fits}
use Rattle.nats_frames.specs.Looking.{Looks}
use Rattle.nats_frames.specs.Decoding.{Held, total, IsFront}
use Rattle.nats_frames.proofs.Founds.{op_found}
use Rattle.nats_frames.proofs.Readings.{op_again}

pub taken : (bytes front rest : Bytes) (shape : Shape) (len : ℕ) → Looks bytes (looks.Whole shape len) → front ≡ take len bytes → rest ≡ drop len bytes →
    (Fits front shape × Spells (op_in front shape) front) × (bytes ≡ front ++ rest)
taken bytes front rest shape len h front_is rest_is =
    let found = op_found bytes (op_in (take len bytes) shape) (drop len bytes) h.2 in
    let same : found.front ≡ take len bytes = append_cancel_right found.front (take len bytes) (drop len bytes) (sym found.whole ∙ sym (take-append-drop len bytes)) in
    let ready : Fits (take len bytes) shape × Spells (op_in (take len bytes) shape) (take len bytes) = (h.1, subst (Spells (op_in (take len bytes) shape)) same found.spelled) in (
      subst (λ (b : Bytes). Fits b shape × Spells (op_in b shape) b) (sym front_is) ready,
      sym (take-append-drop len bytes) ∙ ap (λ b. b ++ drop len bytes) (sym front_is) ∙ ap (λ r. front ++ r) (sym rest_is),
    )

pub given : (old : Held) (before len : ℕ) (made op : Op) (bytes held front rest : Bytes) → Spells made bytes → op ≡ made → len ≡ length bytes →
    record { before = before; bytes = held } ≡ old → held ≡ bytes ++ front → rest ≡ front →
    ((op_at old.bytes ≡ Whole op rest) × IsFront op old.bytes rest) × (before + len + length rest ≡ total old)
given old before len made op bytes held front rest spelled op_is len_is view apart rest_is =
    let old_is : old.bytes ≡ bytes ++ rest = ap (λ (h : Held). h.bytes) (sym view) ∙ apart ∙ ap (λ r. bytes ++ r) (sym rest_is) in
    let before_is : before ≡ old.before = ap (λ (h : Held). h.before) view in (
      (
        ap op_at old_is ∙ op_again made bytes rest spelled ∙ ap (λ (o : Op). Whole o rest) (sym op_is),
        record { front = bytes; spelled = subst (λ (o : Op). Spells o bytes) (sym op_is) spelled; whole = old_is },
      ),
      omega (arith, len_is, before_is, ap length old_is, length-append bytes rest),
    )
