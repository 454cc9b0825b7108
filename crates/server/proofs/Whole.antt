-- Laws of an input of whole operations, of which some were read.
use Rattle.std.proofs.Common.{◌≡◌, ℕ, List, [], ◌∷◌, ◌++◌, refl, sym, ◌∙◌, ap, subst, append_assoc}
use Rattle.std.proofs.lemmas.List.{append-nil}
use Rattle.js_base.specs.Bytes.{Bytes}
use Rattle.nats_frames.specs.declared.op.Op.{Op}
use Rattle.nats_frames.specs.declared.op.FrameFault.{FrameFault}
use Rattle.nats_frames.specs.Decoding.{IsRefused}
use Rattle.nats_frames.specs.Grammar.{Fronts}
use Rattle.nats_frames.specs.Reading.{Whole, Partial, Broken, op_at}
use Rattle.nats_frames.proofs.Runs.{spelled, broken, one}

pub none_partial : op_at [] ≡ Partial
unfolding op_at
none_partial = refl

-- operations that were read, and then those behind them
pub fronts_on : (bytes more : Bytes) (some later : List Op) (rest last : Bytes) → Fronts bytes some rest → Fronts (rest ++ more) later last → Fronts (bytes ++ more) (some ++ later) last
fronts_on bytes more [] later rest last h k = subst (λ (b : Bytes). Fronts (b ++ more) later last) (sym h) k
fronts_on bytes more (op ∷ some) later rest last h k = (
  h.0,
  h.1 ++ more,
  h.2,
  ap (λ b. b ++ more) h.3 ∙ append_assoc h.0 h.1 more,
  fronts_on h.1 more some later rest last h.4 k,
)

-- what stands behind some of the operations is the others
pub record Leaves (some ops : List Op) (bytes : Bytes) : Type 0 where
  pub later : List Op
  pub ops_are : ops ≡ some ++ later
  pub fronts : Fronts bytes later []

pub leaves : (bytes rest more : Bytes) (some ops : List Op) → Fronts bytes some rest → Fronts (bytes ++ more) ops [] → Leaves some ops (rest ++ more)
leaves bytes rest more [] ops h k = record { later = ops; ops_are = refl; fronts = subst (λ (b : Bytes). Fronts (b ++ more) ops []) h k }
leaves bytes rest more (op ∷ some) [] h k =
    let clash : Partial ≡ Whole op (h.1 ++ more) =
    sym none_partial ∙ ap op_at (sym k ∙ ap (λ b. b ++ more) h.3 ∙ append_assoc h.0 h.1 more) ∙ spelled op h.0 (h.1 ++ more) h.2
    in absurd (cc)
leaves bytes rest more (op ∷ some) (other ∷ ops) h k =
    let same = one op other h.0 (h.1 ++ more) k.0 k.1 h.2 k.2 (sym (append_assoc h.0 h.1 more) ∙ ap (λ b. b ++ more) (sym h.3) ∙ k.3) in
    let left = leaves h.1 rest more some ops h.4 (subst (λ (b : Bytes). Fronts b ops []) (sym same.2) k.4) in
    record { later = left.later; ops_are = (let op_is = same.0 in let ops_are = left.ops_are in cc); fronts = left.fronts }

-- if less than an operation is left, nothing is
pub leaves_none : (rest : Bytes) (later : List Op) → op_at rest ≡ Partial → Fronts rest later [] → later ≡ []
leaves_none rest [] e h = refl
leaves_none rest (op ∷ later) e h = let clash : Partial ≡ Whole op h.1 = sym e ∙ ap op_at h.3 ∙ spelled op h.0 h.1 h.2 in absurd (cc)

-- no fault begins what is left
pub leaves_sound : (rest more : Bytes) (told_as : FrameFault) (before : ℕ) (later : List Op) → IsRefused told_as before rest → Fronts (rest ++ more) later [] → ⊥
leaves_sound rest more told_as before [] r h = let clash : Partial ≡ Broken r.fault = sym none_partial ∙ ap op_at (sym h) ∙ broken rest more r.fault r.broken in cc
leaves_sound rest more told_as before (op ∷ later) r h = let clash : Broken r.fault ≡ Whole op h.1 = sym (broken rest more r.fault r.broken) ∙ ap op_at h.3 ∙ spelled op h.0 h.1 h.2 in cc

-- and none begins less than an operation
pub idle_sound : (rest : Bytes) (told_as : FrameFault) (before : ℕ) → IsRefused told_as before rest → op_at rest ≡ Partial → ⊥
idle_sound rest told_as before r idle = let clash : Partial ≡ Broken r.fault = sym idle ∙ ap op_at (sym (append-nil rest)) ∙ broken rest [] r.fault r.broken in cc
