-- What the closing of a desk makes of the status of a run, and what it prints.
use Rattle.std.specs.Prelude.{ℕ, Bool, ◌&&◌, ◌==◌, Option, Some, None, if◌then◌else◌}
use Rattle.js_base.specs.Bytes.{Bytes}
use Rattle.place_engine.specs.declared.faults.PlaceFault.{PlaceFault}
use Rattle.place_engine.specs.declared.faults.PlaceFault.TheVariants as faults
use Rattle.server.specs.Lines.{disk_fault_line}

-- the status of a place that could not be brought to its volume: the store failed, its generations are used up, or memory ran out
abbrev pub flush_status : PlaceFault → ℕ
flush_status (faults.NoMemory left) = 7
flush_status faults.StoreFault = 4
flush_status (faults.Stopped count) = 4
flush_status (faults.Gone kept) = 4
flush_status (faults.Worn refused) = 10

-- of a run that ended so and a place that failed then, the first one gives the status; but want of memory in the closing stands before what a
-- session ended by
abbrev pub status_with : (served : Bool) (status flushed : ℕ) → ℕ
status_with served status flushed = if status == 0 then flushed else if served && flushed == 7 then 7 else status

-- the status that is left by the closing
abbrev pub closing_status : Bool → ℕ → Option (ℕ × PlaceFault) → ℕ
closing_status served status None = status
closing_status served status (Some failed) = status_with served status (flush_status failed.1)

-- the line for the place whose store failed, if that gives the status
abbrev pub closing_line : ℕ → Option (ℕ × PlaceFault) → Option Bytes
closing_line status None = None
closing_line status (Some failed) = if status == 0 && flush_status failed.1 == 4 then Some (disk_fault_line failed.0) else None
