-- How the faults of logs are told as those of a store.
use Rattle.std.specs.Prelude.{ℕ}
use Rattle.gate_log.specs.declared.fault.LogFault.{LogFault}
use Rattle.gate_log.specs.declared.fault.LogFault.TheVariants as log
use Rattle.log_records.specs.declared.fault.ReadFault.{ReadFault}
use Rattle.log_records.specs.declared.fault.ReadFault.TheVariants as records
use Rattle.block_reading.specs.declared.fault.MessagesFault.{MessagesFault}
use Rattle.block_reading.specs.declared.fault.MessagesFault.TheVariants as blocks
use Rattle.stream_store.specs.declared.fault.OpenFault.{OpenFault}
use Rattle.stream_store.specs.declared.fault.OpenFault.TheVariants as opening

-- the fault of a log in this file
abbrev pub open_fault : ℕ → LogFault → OpenFault
open_fault file log.Fault = opening.Fault
open_fault file log.NoMemory = opening.NoMemory
open_fault file (log.Damaged at) = opening.Damaged file at
open_fault file (log.UnknownVersion n) = opening.UnknownVersion n

-- why the batches of the log in this file give nothing
abbrev pub records_fault : ℕ → ReadFault → OpenFault
records_fault file records.Fault = opening.Fault
records_fault file (records.Damaged at) = opening.Damaged file at
records_fault file records.NoMemory = opening.NoMemory

-- why the messages of the blocks were not read
abbrev pub blocks_fault : MessagesFault → OpenFault
blocks_fault blocks.Fault = opening.Fault
blocks_fault (blocks.Damaged file at) = opening.Damaged file at
blocks_fault blocks.NoMemory = opening.NoMemory
