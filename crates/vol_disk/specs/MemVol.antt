-- A volume in memory, as contracts see it, and what each of its calls does.
use Rattle.std.specs.Prelude.{◌≡◌, ◌⊎◌, ℕ, Bool, true, false, ◌||◌, nat_le, List, [], ◌∷◌, ◌++◌, length, Option, None, Some, Result, Ok, Err}
use Rattle.js_base.specs.Bytes.{has}
use Rattle.js_base.specs.Causes.{raised}
use Rattle.vol_disk.specs.Disk.{Disk}
use Rattle.vol_disk.specs.FileState.{FileState}
use Rattle.vol_disk.specs.Replay.{state_of}
use Rattle.vol_disk.specs.MemDisk.{disk_after}
use Rattle.vol_disk.specs.declared.call.Call.{Call}
use Rattle.vol_disk.specs.declared.call.Deed.{Deed}
use Rattle.vol_disk.specs.declared.call.Deed.TheVariants.{Grow}
use Rattle.vol_disk.specs.declared.failed.Failed.{Failed}
use Rattle.vol_disk.specs.declared.room.Room.{Room}
use Rattle.vol_disk.specs.declared.room.Room.TheVariants.{Made, Refused}

pub record VolState : Type 0 where
  -- the bytes that its files held at first
  pub start : List (ℕ × List ℕ)
  pub calls : List Call
  -- which calls fail, and from which on all do
  pub failing : List ℕ
  pub stop : Option ℕ
  -- whether its files may have only so many bytes together as a budget says
  pub is_bounded : Bool
  -- how often a call failed, and how often there was no room
  pub faults : ℕ
  pub refusals : ℕ

-- a volume whose files hold these bytes at rest, of whose calls those with these numbers fail, and all from
-- the stop on
abbrev pub vol_of : List (ℕ × List ℕ) → List ℕ → Option ℕ → VolState
vol_of start failing stop = record { start = start; calls = []; failing = failing; stop = stop; is_bounded = false; faults = 0; refusals = 0 }

abbrev pub disk_of : VolState → Disk
disk_of vol = disk_after vol.start vol.calls

-- a file of it
abbrev pub file_of : VolState → ℕ → FileState
file_of vol file = state_of vol.start vol.calls file

-- whether the stop has come
abbrev pub is_past : Option ℕ → ℕ → Bool
is_past None number = false
is_past (Some stop) number = nat_le stop number

-- whether the next call fails
abbrev pub next_fails : VolState → Bool
next_fails vol = has vol.failing (length vol.calls) || is_past vol.stop (length vol.calls)

-- the volume with one call more in its record
abbrev pub with_call : VolState → ℕ → Deed → Bool → VolState
with_call vol file deed is_done =
    record vol { calls = vol.calls ++ record { file = file; deed = deed; is_done = is_done } ∷ [] }

-- the volume with one fault more
abbrev pub with_fault : VolState → VolState
with_fault vol = record vol { faults = raised vol.faults }

-- a call that was not to fail was done, and recorded
abbrev pub IsDone : VolState → VolState → ℕ → Deed → Type 0
IsDone old new file deed = (next_fails old ≡ false) × (new ≡ with_call old file deed true)

-- A call that was to fail was recorded so. Where memory ran out, nothing but the count of faults changed.
abbrev pub IsFailed : VolState → VolState → ℕ → Deed → Type 0
IsFailed old new file deed =
    ((next_fails old ≡ true) × (new ≡ with_fault (with_call old file deed false))) ⊎ (new ≡ with_fault old)

-- what a call that was answered so did
abbrev pub IsCall : {T E : Type 0} → VolState → VolState → Result T E → ℕ → Deed → Type 0
IsCall old new (Ok value) file deed = IsDone old new file deed
IsCall old new (Err failed) file deed = IsFailed old new file deed

-- the volume with one refusal more
abbrev pub with_refusal : VolState → VolState
with_refusal vol = record vol { refusals = raised vol.refusals }

-- A call for room that was refused was recorded as one that was not done. A volume without a budget has no such call.
abbrev pub IsRefusedCall : VolState → VolState → ℕ → Deed → Type 0
IsRefusedCall old new file deed =
    (old.is_bounded ≡ true) × (next_fails old ≡ false) × (new ≡ with_refusal (with_call old file deed false))

-- what a call for room that was answered so did
abbrev pub IsGrowCall : VolState → VolState → Result Room Failed → ℕ → ℕ → Type 0
IsGrowCall old new (Ok Made) file count = IsDone old new file (Grow count)
IsGrowCall old new (Ok Refused) file count = IsRefusedCall old new file (Grow count)
IsGrowCall old new (Err failed) file count = IsFailed old new file (Grow count)
