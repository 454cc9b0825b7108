-- To which state a place is opened on a volume, and why it is not.
use Rattle.js_model.specs.declared.stream.State.{State}
use Rattle.vol_disk.specs.Disk.{Disk, Files}
use Rattle.stream_store.specs.Damage.{IsDamaged, IsOfAnotherVersion}
use Rattle.stream_store.specs.declared.fault.OpenFault.{OpenFault as StoreFault}
use Rattle.stream_store.specs.declared.fault.OpenFault.TheVariants as store
use Rattle.place_engine.specs.declared.faults.OpenFault.{OpenFault}
use Rattle.place_engine.specs.declared.faults.OpenFault.TheVariants.{Fault, Damaged, UnknownVersion, NoRoom, NoMemory}
use Rattle.volume_place.specs.Images.{holds}

-- what reads give holds it
abbrev pub opens : {V : Type 0} → Type 0 → (V → Disk) → V → State → Type 0
opens told disk vol state = told → holds (disk vol).seen state

-- the volume failed, memory or room ran out, or the image has this fault
abbrev pub IsRefusal : Files → OpenFault → Type 0
IsRefusal image Fault = Unit {0}
IsRefusal image (Damaged file at) = IsDamaged image file at
IsRefusal image (UnknownVersion version) = IsOfAnotherVersion image version
IsRefusal image NoRoom = Unit {0}
IsRefusal image NoMemory = Unit {0}

-- it has no fault, whatever its image
abbrev pub IsOutside : OpenFault → Type 0
IsOutside Fault = Unit {0}
IsOutside (Damaged file at) = ⊥
IsOutside (UnknownVersion version) = ⊥
IsOutside NoRoom = Unit {0}
IsOutside NoMemory = Unit {0}

-- if the disk is told
abbrev pub refuses : {V : Type 0} → Type 0 → (V → Disk) → V → OpenFault → Type 0
refuses told disk vol fault = told → IsRefusal (disk vol).seen fault

-- the fault of a store, as a place tells it
abbrev pub fault_of : StoreFault → OpenFault
fault_of store.Fault = Fault
fault_of (store.Damaged file at) = Damaged file at
fault_of (store.UnknownVersion version) = UnknownVersion version
fault_of store.NoRoom = NoRoom
fault_of store.NoMemory = NoMemory
