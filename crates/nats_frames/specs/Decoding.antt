-- What a decoder of a stream gives, piece by piece.
use Rattle.std.specs.Prelude.{ℕ, ◌≡◌, ◌+◌, [], ◌++◌, length, Option, None, Some, Result, Ok, Err}
use Rattle.js_base.specs.Bytes.{Bytes}
use Rattle.nats_frames.specs.declared.fault.Fault.{Fault}
use Rattle.nats_frames.specs.declared.op.Op.{Op}
use Rattle.nats_frames.specs.declared.op.FrameFault.{FrameFault}
use Rattle.nats_frames.specs.declared.op.FrameFault.TheVariants.{UnknownOp, LineTooLong, BadArgs, PayloadTooBig, BadEnd, NoMemory}
use Rattle.nats_frames.specs.declared.front.Ready.{Ready}
use Rattle.nats_frames.specs.Faults.{told}
use Rattle.nats_frames.specs.Grammar.{Spells}
use Rattle.nats_frames.specs.Reading.{Whole, Partial, Broken, op_at}
use Rattle.nats_frames.specs.Shapes.{op_in, Fits}

-- what a decoder holds of its input: how many bytes came before, and the bytes that came since
pub record Held : Type 0 where
  pub before : ℕ
  pub bytes : Bytes

-- how many bytes came in all
abbrev pub total : Held → ℕ
total held = held.before + length held.bytes

-- the bytes are a spelling of the operation, and then the rest
pub record IsFront (op : Op) (bytes rest : Bytes) : Type 0 where
  pub front : Bytes
  pub spelled : Spells op front
  pub whole : bytes ≡ front ++ rest

-- the bytes begin with a fault that is reported so, if so many bytes came before
pub record IsRefused (told_as : FrameFault) (before : ℕ) (bytes : Bytes) : Type 0 where
  pub fault : Fault
  pub broken : op_at bytes ≡ Broken fault
  pub told_is : told_as ≡ told before fault

-- memory ran out, or else the bytes begin with a fault that is reported so
abbrev pub Refuses : FrameFault → ℕ → Bytes → Type 0
Refuses NoMemory before bytes = Unit {0}
Refuses UnknownOp before bytes = IsRefused UnknownOp before bytes
Refuses LineTooLong before bytes = IsRefused LineTooLong before bytes
Refuses BadArgs before bytes = IsRefused BadArgs before bytes
Refuses (PayloadTooBig size) before bytes = IsRefused (PayloadTooBig size) before bytes
Refuses (BadEnd place) before bytes = IsRefused (BadEnd place) before bytes

-- what was given of the bytes held before, and which are held now
abbrev pub Gives : Result (Option Op) FrameFault → Held → Held → Type 0
Gives (Ok (Some op)) old new = (op_at old.bytes ≡ Whole op new.bytes) × IsFront op old.bytes new.bytes
Gives (Ok None) old new = (op_at old.bytes ≡ Partial) × (new ≡ old)
Gives (Err fault) old new = Refuses fault old.before old.bytes × (new ≡ old)

-- the parts of an operation in its bytes
abbrev pub IsReady : Ready → Type 0
IsReady ready = Fits ready.bytes ready.shape × Spells (op_in ready.bytes ready.shape) ready.bytes

-- the bytes of an operation that is taken off but not given yet
abbrev pub kept : Option Ready → Bytes
kept None = []
kept (Some ready) = ready.bytes

-- what was taken off the front, of an input of which so many bytes came before
abbrev pub Takes : Result (Option Ready) FrameFault → ℕ → Bytes → Bytes → Type 0
Takes (Ok (Some ready)) before old new = IsReady ready × (old ≡ ready.bytes ++ new)
Takes (Ok None) before old new = (op_at old ≡ Partial) × (new ≡ old)
Takes (Err fault) before old new = Refuses fault before old × (new ≡ old)
