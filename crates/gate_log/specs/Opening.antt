-- What is read of a log file as it is opened, and why it is not.
use Rattle.std.specs.Prelude.{◌≡◌, ℕ, ◌<◌, ◌^◌, take, Option, Some, None}
use Rattle.js_base.specs.Bytes.{Bytes}
use Rattle.gate_log.specs.Head.{head}
use Rattle.gate_log.specs.LogFile.{IsShut}
use Rattle.gate_log.specs.Faults.{IsFirstOpen, HasUnknownVersion, IsHeadDamagedAt, IsDamagedAt, IsOfUnknownVersion}
use Rattle.gate_log.specs.declared.fault.LogFault.{LogFault}
use Rattle.gate_log.specs.declared.fault.LogFault.TheVariants.{Fault, NoMemory, Damaged, UnknownVersion}

-- the volume failed, or the bytes have this fault
abbrev pub IsOpenFault : Bytes → LogFault → Type 0
IsOpenFault bytes Fault = Unit {0}
IsOpenFault bytes NoMemory = ⊥
IsOpenFault bytes (Damaged at) = IsDamagedAt bytes at
IsOpenFault bytes (UnknownVersion n) = IsOfUnknownVersion bytes n

-- its first gate is closed, or it begins with the head of this generation
abbrev pub IsHeadRead : Bytes → Option ℕ → Type 0
IsHeadRead bytes None = IsShut bytes
IsHeadRead bytes (Some generation) = IsFirstOpen bytes × (take 20 bytes ≡ head generation) × (generation < 2 ^ 62)

-- the head has this fault
abbrev pub IsHeadFault : Bytes → LogFault → Type 0
IsHeadFault bytes Fault = ⊥
IsHeadFault bytes NoMemory = ⊥
IsHeadFault bytes (Damaged at) = IsHeadDamagedAt bytes at
IsHeadFault bytes (UnknownVersion n) = HasUnknownVersion bytes n

-- the volume failed, or the head has this fault
abbrev pub IsHeadFaultOf : Bytes → LogFault → Type 0
IsHeadFaultOf bytes Fault = Unit {0}
IsHeadFaultOf bytes NoMemory = ⊥
IsHeadFaultOf bytes (Damaged at) = IsHeadDamagedAt bytes at
IsHeadFaultOf bytes (UnknownVersion n) = HasUnknownVersion bytes n

-- the volume failed, or memory ran out
abbrev pub IsOutside : LogFault → Type 0
IsOutside Fault = Unit {0}
IsOutside NoMemory = Unit {0}
IsOutside (Damaged at) = ⊥
IsOutside (UnknownVersion n) = ⊥
