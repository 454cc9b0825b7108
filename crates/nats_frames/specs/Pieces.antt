-- An input that is fed in pieces, and the operations that are given of it in between.
use Rattle.std.specs.Prelude.{◌≡◌, List, [], ◌∷◌, ◌++◌}
use Rattle.js_base.specs.Bytes.{Bytes}
use Rattle.nats_frames.specs.declared.op.Op.{Op}
use Rattle.nats_frames.specs.declared.fault.Fault.{Fault}
use Rattle.nats_frames.specs.Grammar.{Fronts, Ops, IsFaulty}
use Rattle.nats_frames.specs.Reading.{Whole, Partial, Broken, op_at}

-- a call of a decoder: a piece was fed, or an operation was given
pub data Call : Type 0 where
  Fed : Bytes → Call
  Gave : Op → Call

-- all bytes that were fed
abbrev pub input : List Call → Bytes
input [] = []
input (Fed piece ∷ calls) = piece ++ input calls
input (Gave op ∷ calls) = input calls

-- all operations that were given
abbrev pub given : List Call → List Op
given [] = []
given (Fed piece ∷ calls) = given calls
given (Gave op ∷ calls) = op ∷ given calls

-- the calls lead from the bytes that are held to the last ones, as the clauses of `feed` and `next` say
abbrev pub Leads : Bytes → List Call → Bytes → Type 0
Leads held [] last = held ≡ last
Leads held (Fed piece ∷ calls) last = Leads (held ++ piece) calls last
Leads held (Gave op ∷ calls) last = (rest : Bytes) × (op_at held ≡ Whole op rest) × Leads rest calls last

-- However an input is cut into pieces and whenever operations are asked for: those given are the first ones of the input, they are all of
-- them if no more is given, and what is refused then has a fault.
pub record IsFramed (calls : List Call) (last : Bytes) : Type 0 where
  pub first : Fronts (input calls) (given calls) last
  pub all : op_at last ≡ Partial → Ops (input calls) (given calls) last
  pub refused : (fault : Fault) → op_at last ≡ Broken fault → Ops (input calls) (given calls) last × IsFaulty fault last

abbrev pub LawFraming : Type 0
LawFraming = (calls : List Call) (last : Bytes) → Leads [] calls last → IsFramed calls last
