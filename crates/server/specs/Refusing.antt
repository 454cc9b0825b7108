-- What comes of a run whose volumes were not opened: its status, what it prints, and the volumes.
use Rattle.std.specs.Prelude.{ℕ, List, Option, Some, None}
use Rattle.js_base.specs.Bytes.{Bytes}
use Rattle.place_engine.specs.declared.faults.OpenFault.{OpenFault}
use Rattle.place_engine.specs.declared.faults.OpenFault.TheVariants as faults
use Rattle.desk_places.specs.declared.faults.HubFault.{HubFault}
use Rattle.desk_places.specs.declared.faults.HubFault.TheVariants as hubs
use Rattle.server.specs.Lines.{disk_fault_line, damaged_line, version_line, no_room_line, conflict_line}

-- the status of a place that was not opened: its volume failed or has no room, holds what no server may have left, or memory ran out
abbrev pub open_status : OpenFault → ℕ
open_status faults.Fault = 4
open_status (faults.Damaged file at) = 5
open_status (faults.UnknownVersion version) = 5
open_status faults.NoRoom = 4
open_status faults.NoMemory = 7

abbrev pub open_line : ℕ → OpenFault → Option Bytes
open_line place faults.Fault = Some (disk_fault_line place)
open_line place (faults.Damaged file at) = Some (damaged_line place file at)
open_line place (faults.UnknownVersion version) = Some (version_line version place)
open_line place faults.NoRoom = Some (no_room_line place)
open_line place faults.NoMemory = None

module _ {V : Type 0} where
  abbrev pub refused_status : HubFault V → ℕ
  refused_status (hubs.Open place fault vols) = open_status fault
  refused_status (hubs.Conflict first second vols) = 5
  refused_status (hubs.NoMemory vols) = 7

  abbrev pub refused_line : HubFault V → Option Bytes
  refused_line (hubs.Open place fault vols) = open_line place fault
  refused_line (hubs.Conflict first second vols) = Some (conflict_line first second)
  refused_line (hubs.NoMemory vols) = None

  -- the volumes that come back
  abbrev pub vols_of : HubFault V → List V
  vols_of (hubs.Open place _ vols) = vols.items
  vols_of (hubs.Conflict first second vols) = vols.items
  vols_of (hubs.NoMemory vols) = vols.items
