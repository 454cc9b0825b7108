-- Faults, as they are counted from the first of the bytes and from the start of the input.
use Rattle.std.specs.Prelude.{ℕ, ◌+◌}
use Rattle.nats_frames.specs.declared.fault.Fault.{Fault}
use Rattle.nats_frames.specs.declared.fault.Fault.TheVariants.{UnknownOp, LineTooLong, BadArgs, PayloadTooBig, BadEnd}
use Rattle.nats_frames.specs.declared.op.FrameFault.{FrameFault}
use Rattle.nats_frames.specs.declared.op.FrameFault.TheVariants as faults

-- the fault of an input of which so many bytes came before
abbrev pub told : ℕ → Fault → FrameFault
told before UnknownOp = faults.UnknownOp
told before LineTooLong = faults.LineTooLong
told before BadArgs = faults.BadArgs
told before (PayloadTooBig size) = faults.PayloadTooBig size
told before (BadEnd place) = faults.BadEnd (before + place)

-- the greatest place that is named
abbrev pub reach : Fault → ℕ
reach UnknownOp = 0
reach LineTooLong = 0
reach BadArgs = 0
reach (PayloadTooBig _) = 0
reach (BadEnd place) = place
