-- The laws of reading, over all bytes.
use Rattle.std.specs.Prelude.{◌≡◌, ◌++◌, ◌↔◌, List}
use Rattle.js_base.specs.Bytes.{Bytes}
use Rattle.nats_frames.specs.declared.op.Op.{Op}
use Rattle.nats_frames.specs.declared.fault.Fault.{Fault}
use Rattle.nats_frames.specs.Grammar.{Spells, Ops, Fronts, BeginsNone, IsFaulty}
use Rattle.nats_frames.specs.Reading.{Whole, Partial, Broken, op_at}

-- what is read is spelled so
abbrev pub LawRead : Type 0
LawRead = (bytes : Bytes) (op : Op) (rest : Bytes) → op_at bytes ≡ Whole op rest → (front : Bytes) × Spells op front × (bytes ≡ front ++ rest)

-- what is spelled so is read so, whatever follows
abbrev pub LawSpelled : Type 0
LawSpelled = (op : Op) (front rest : Bytes) → Spells op front → op_at (front ++ rest) ≡ Whole op rest

-- what is read as broken has that fault, and the other way round
abbrev pub LawFaulty : Type 0
LawFaulty = (bytes : Bytes) (fault : Fault) → (op_at bytes ≡ Broken fault) ↔ IsFaulty fault bytes

-- one operation at most begins the bytes, in one way
abbrev pub LawOne : Type 0
LawOne = (op other : Op) (front rest front_of rest_of : Bytes) → Spells op front → Spells other front_of → front ++ rest ≡ front_of ++ rest_of →
    (op ≡ other) × (front ≡ front_of) × (rest ≡ rest_of)

-- one fault at most begins the bytes
abbrev pub LawOneFault : Type 0
LawOneFault = (bytes : Bytes) (fault other : Fault) → IsFaulty fault bytes → IsFaulty other bytes → fault ≡ other

-- bytes that begin with a fault begin with no operation
abbrev pub LawApart : Type 0
LawApart = (bytes : Bytes) (fault : Fault) → IsFaulty fault bytes → BeginsNone bytes

-- what bytes begin with stays, whatever follows
abbrev pub LawWhole : Type 0
LawWhole = (bytes : Bytes) (op : Op) (rest more : Bytes) → op_at bytes ≡ Whole op rest → op_at (bytes ++ more) ≡ Whole op (rest ++ more)

abbrev pub LawBroken : Type 0
LawBroken = (bytes more : Bytes) (fault : Fault) → op_at bytes ≡ Broken fault → op_at (bytes ++ more) ≡ Broken fault

-- what is read as partial begins with no operation and no fault, and the other way round
abbrev pub LawPartial : Type 0
LawPartial = (bytes : Bytes) → (op_at bytes ≡ Partial) ↔ (BeginsNone bytes × ((fault : Fault) → IsFaulty fault bytes → ⊥))

-- the operations of bytes, and the rest of them, are one list and one rest
abbrev pub LawOps : Type 0
LawOps = (bytes : Bytes) (ops others : List Op) (rest rest_of : Bytes) → Ops bytes ops rest → Ops bytes others rest_of → (ops ≡ others) × (rest ≡ rest_of)

-- operations that were read stay the first ones, whatever follows, and those of the rest come after them
abbrev pub LawJoin : Type 0
LawJoin = (bytes : Bytes) (ops : List Op) (rest more : Bytes) (later : List Op) (last : Bytes) →
    Fronts bytes ops rest → Ops (rest ++ more) later last → Ops (bytes ++ more) (ops ++ later) last
