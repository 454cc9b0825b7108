-- The laws of snapshots: what a batch can have is read as a snapshot exactly if it is spelled so, and of what a volume may hold a snapshot can be written.
use Rattle.std.specs.Prelude.{◌≡◌, ◌↔◌, length, IsTrue, Ok}
use Rattle.js_base.specs.Bytes.{Bytes}
use Rattle.effects.specs.declared.durable.Durable.{Durable}
use Rattle.op_records.specs.Laws.{IsBatch}
use Rattle.block_table.specs.Blocks.{Blocks}
use Rattle.block_table.specs.Tables.{IsTable}
use Rattle.durable_checks.specs.Storable.{IsFormed, IsStorable}
use Rattle.state_snapshot.specs.Allowed.{is_snapshot}
use Rattle.state_snapshot.specs.Reading.{snapshot_field}
use Rattle.state_snapshot.specs.Snapshots.{snapshot_of}
use Rattle.state_snapshot.specs.Spelling.{spelled_snapshot}
use Rattle.state_snapshot.specs.declared.snapshot.Snapshot.{Snapshot}

-- the snapshot can be written, and the bytes spell it
pub record SpellsSnapshot (bytes : Bytes) (s : Snapshot) : Type 0 where
  pub allowed : IsTrue (is_snapshot s)
  pub bytes_are : bytes ≡ spelled_snapshot s

abbrev pub LawSnapshot : Type 0
LawSnapshot = (bytes : Bytes) (s : Snapshot) → IsBatch bytes → (snapshot_field bytes 0 ≡ Ok (s, length bytes)) ↔ SpellsSnapshot bytes s

abbrev pub LawWritable : Type 0
LawWritable = (d : Durable) (b : Blocks) → IsFormed d → IsStorable d → IsTable b → IsTrue (is_snapshot (snapshot_of d b))
