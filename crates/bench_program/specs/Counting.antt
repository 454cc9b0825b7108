-- How many operations of the NATS client protocol an input holds.
use Rattle.std.specs.Prelude.{◌≡◌, ℕ, List, length}
use Rattle.js_base.specs.Bytes.{Bytes}
use Rattle.nats_frames.specs.declared.op.Op.{Op}
use Rattle.nats_frames.specs.Grammar.{Ops}

-- the bytes are so many operations and then this rest, in which no operation begins
pub record Takes (count : ℕ) (bytes rest : Bytes) : Type 0 where
  pub ops : List Op
  pub are : Ops bytes ops rest
  pub count_is : count ≡ length ops

-- the bytes have so many operations
abbrev pub Counts : ℕ → Bytes → Type 0
Counts count bytes = (rest : Bytes) × Takes count bytes rest
