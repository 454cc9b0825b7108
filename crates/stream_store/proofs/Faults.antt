-- Why a commit was not made, or a store not opened.
use Rattle.std.proofs.Common.{◌≡◌, ℕ, Result, Ok, Err, IsErrAnd, ap, refl, sym, ◌∙◌}
use Rattle.std.specs.Prelude.{IsErrOf}
use Rattle.gate_log.specs.declared.fault.LogFault.{LogFault}
use Rattle.gate_log.specs.declared.fault.LogFault.TheVariants as logs
use Rattle.log_records.specs.declared.fault.ReadFault.{ReadFault}
use Rattle.log_records.specs.declared.fault.ReadFault.TheVariants as records
use Rattle.block_reading.specs.declared.fault.MessagesFault.{MessagesFault}
use Rattle.block_reading.specs.declared.fault.MessagesFault.TheVariants as messages
use Rattle.stream_store.specs.Faults.{blocks_fault, open_fault, records_fault}
use Rattle.stream_store.specs.declared.fault.CommitFault.{CommitFault}
use Rattle.stream_store.specs.declared.fault.CommitFault.TheVariants.{Fault, NoMemory, Worn}
use Rattle.stream_store.specs.declared.fault.OpenFault.{OpenFault}
use Rattle.stream_store.specs.declared.fault.OpenFault.TheVariants as opening

told_of : {T E : Type 0} (result : Result T E) (told e : E) → IsErrAnd result (λ t. t ≡ told) → IsErrOf result e → told ≡ e
told_of (Ok value) told e is same = absurd is
told_of (Err t) told e is same = let here : t ≡ e = cc in sym is ∙ here

-- neither want of memory nor a fault of the volume is told as `Worn`
pub memory_worn : {T : Type 0} (result : Result T CommitFault) → IsErrAnd result (λ t. t ≡ NoMemory) → IsErrOf result Worn → ⊥
memory_worn result is same = let told : NoMemory ≡ Worn = told_of result NoMemory Worn is same in absurd (cc)

pub volume_worn : {T : Type 0} (result : Result T CommitFault) → IsErrAnd result (λ t. t ≡ Fault) → IsErrOf result Worn → ⊥
volume_worn result is same = let told : Fault ≡ Worn = told_of result Fault Worn is same in absurd (cc)

-- what a call never answers is not answered where its fault is handed on
pub never_told : {T S E : Type 0} (result : Result T E) (inner : Result S E) (fault e : E) → IsErrAnd result (λ t. t ≡ fault) → inner ≡ Err fault → ¬ IsErrOf inner e → ¬ IsErrOf result e
never_told result inner fault e is told never same = never (told ∙ ap (λ t. Err t) (told_of result fault e is same))

-- ---- neither the volume's faults nor want of memory are want of room

pub volume_roomy : {T : Type 0} (result : Result T OpenFault) → IsErrAnd result (λ t. t ≡ opening.Fault) → ¬ IsErrOf result opening.NoRoom
volume_roomy result is same = let told : opening.Fault ≡ opening.NoRoom = told_of result opening.Fault opening.NoRoom is same in absurd (cc)

pub memory_roomy : {T : Type 0} (result : Result T OpenFault) → IsErrAnd result (λ t. t ≡ opening.NoMemory) → ¬ IsErrOf result opening.NoRoom
memory_roomy result is same = let told : opening.NoMemory ≡ opening.NoRoom = told_of result opening.NoMemory opening.NoRoom is same in absurd (cc)

-- nor are those of a log, of its records and of messages

pub open_roomy : (file : ℕ) (fault : LogFault) (told : OpenFault) → told ≡ open_fault file fault → ¬ (told ≡ opening.NoRoom)
open_roomy file logs.Fault told e is = absurd (cc)
open_roomy file logs.NoMemory told e is = absurd (cc)
open_roomy file (logs.Damaged at) told e is = absurd (cc)
open_roomy file (logs.UnknownVersion n) told e is = absurd (cc)

pub records_roomy : (file : ℕ) (fault : ReadFault) (told : OpenFault) → told ≡ records_fault file fault → ¬ (told ≡ opening.NoRoom)
records_roomy file records.Fault told e is = absurd (cc)
records_roomy file (records.Damaged at) told e is = absurd (cc)
records_roomy file records.NoMemory told e is = absurd (cc)

blocks_roomy : (fault : MessagesFault) (told : OpenFault) → told ≡ blocks_fault fault → ¬ (told ≡ opening.NoRoom)
blocks_roomy messages.Fault told e is = absurd (cc)
blocks_roomy (messages.Damaged file at) told e is = absurd (cc)
blocks_roomy messages.NoMemory told e is = absurd (cc)

pub messages_roomy : {T : Type 0} (result : Result T OpenFault) (fault : MessagesFault) → IsErrAnd result (λ t. t ≡ blocks_fault fault) → ¬ IsErrOf result opening.NoRoom
messages_roomy result fault is same = blocks_roomy fault (blocks_fault fault) refl (told_of result (blocks_fault fault) opening.NoRoom is same)
