-- How a log file is read from gate to gate.
use Rattle.std.specs.Prelude.{◌≡◌, ◌≢◌, ℕ, ◌+◌, ◌<◌, ◌^◌, List, ◌∷◌, ◌++◌, length, take, drop, Option, Some, None}
use Rattle.js_base.specs.Bytes.{Bytes}
use Rattle.gate_log.specs.Batches.{open_batch, open_batches, end_of, HaveLengths}
use Rattle.gate_log.specs.Faults.{IsDamagedBatch}
use Rattle.gate_log.specs.declared.fault.LogFault.{LogFault}
use Rattle.gate_log.specs.declared.fault.LogFault.TheVariants.{Fault, NoMemory, Damaged, UnknownVersion}

-- what stands at a gate: it is closed, or opens a batch with another gate after it
abbrev pub IsNextGate : Bytes → ℕ → Option ℕ → Type 0
IsNextGate bytes at None = (gate : ℕ) × (rest : Bytes) × (drop at bytes ≡ gate ∷ rest) × (gate ≢ 1)
IsNextGate bytes at (Some next) =
    (records : Bytes) × (drop at bytes ≡ open_batch records ++ drop next bytes) × (next ≡ at + 9 + length records) × (next < length bytes) × (length records < 2 ^ 32)

-- it opens a batch that is damaged
abbrev pub IsDamagedGate : Bytes → ℕ → Type 0
IsDamagedGate bytes at = (rest : Bytes) × (drop at bytes ≡ 1 ∷ rest) × IsDamagedBatch rest

-- these open batches lead from the first gate to this one
pub record IsWalked (bytes : Bytes) (batches : List Bytes) (at : ℕ) : Type 0 where
  pub bytes_are : drop 20 bytes ≡ open_batches batches ++ drop at bytes
  pub here : at ≡ end_of batches
  pub lengths : HaveLengths batches

-- the gates after the first open batch and after the last one, of which the second is closed
pub record AreEnds (bytes : Bytes) (first_end end : ℕ) : Type 0 where
  pub batches : List Bytes
  pub walked : IsWalked bytes batches end
  pub first : first_end ≡ end_of (take 1 batches)
  pub closed : IsNextGate bytes end None

-- at the gate to which open batches lead
abbrev pub IsGateFault : Bytes → ℕ → LogFault → Type 0
IsGateFault bytes at Fault = Unit {0}
IsGateFault bytes at NoMemory = ⊥
IsGateFault bytes at (Damaged place) = (place ≡ at) × IsDamagedGate bytes at
IsGateFault bytes at (UnknownVersion n) = ⊥

-- at the first gate to which open batches lead and that opens none
abbrev pub IsWalkFault : Bytes → LogFault → Type 0
IsWalkFault bytes Fault = Unit {0}
IsWalkFault bytes NoMemory = ⊥
IsWalkFault bytes (Damaged at) = (batches : List Bytes) × IsWalked bytes batches at × IsDamagedGate bytes at
IsWalkFault bytes (UnknownVersion n) = ⊥
