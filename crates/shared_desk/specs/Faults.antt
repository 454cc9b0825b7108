-- Why a hub is not opened if it has no catalog.
use Rattle.desk_places.specs.declared.cataloging.Uncataloged.{Uncataloged}
use Rattle.desk_places.specs.declared.cataloging.Uncataloged.TheVariants as stops
use Rattle.desk_places.specs.declared.faults.HubFault.{HubFault}
use Rattle.desk_places.specs.declared.faults.HubFault.TheVariants as faults
use Rattle.std.specs.Global.{Vec}

abbrev pub fault_of : {V : Type 0} → Uncataloged → Vec V → HubFault V
fault_of (stops.Conflict first second) vols = faults.Conflict first second vols
fault_of stops.NoMemory vols = faults.NoMemory vols
