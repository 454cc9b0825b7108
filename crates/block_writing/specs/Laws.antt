-- What is true of each plan of a commit, and of the volume on which its runs are written.
use Rattle.std.specs.Prelude.{◌≡◌, ◌≤◌, IsTrue, List, All, Some, length}
use Rattle.js_base.specs.declared.spot.Spot.{Spot}
use Rattle.js_model.specs.declared.stream.Message.{Message}
use Rattle.std.specs.List.{list_all}
use Rattle.effects.specs.declared.effect.Effect.{Effect}
use Rattle.op_records.specs.Allowed.{is_record}
use Rattle.op_records.specs.Blocks.{spelled_message}
use Rattle.vol_disk.specs.Disk.{Disk}
use Rattle.vol_disk.specs.Images.{AreBytes}
use Rattle.vol_disk.specs.Moments.{LeavesOnly}
use Rattle.block_table.specs.declared.placing.Placing.{Placing}
use Rattle.block_table.specs.Blocks.{Blocks}
use Rattle.block_table.specs.Closing.{closed}
use Rattle.block_table.specs.Placings.{place}
use Rattle.block_table.specs.Puts.{end_of}
use Rattle.block_table.specs.Tables.{IsTable}
use Rattle.block_writing.specs.Planning.{Planned, begun, planned, with_message}
use Rattle.block_writing.specs.Runs.{IsPlaced, IsShort, AreApart, LiesIn, AreStoredBy}
use Rattle.block_writing.specs.Writing.{AreWithin, BlocksStand, ChangesRuns, HasStored, IsWritten, KeepsBlocks}

-- these changes may be recorded, and this is their plan
pub record ArePlannedBy (b : Blocks) (es : List Effect) (made : Planned) : Type 0 where
  pub table : IsTable b
  pub allowed : IsTrue (list_all is_record es)
  pub made_is : planned b es (Some (begun b)) ≡ Some made

-- the runs begin where the blocks end, none is in the file of a log and no two are in one, and they have each message at the spot that its record tells
pub record AreRuns (b : Blocks) (es : List Effect) (made : Planned) : Type 0 where
  pub placed : All (IsPlaced b) made.runs
  pub files : All (λ run. 2 ≤ run.file) made.runs
  pub short : All IsShort made.runs
  pub apart : AreApart made.runs
  pub stored : AreStoredBy (LiesIn made.runs) es made.records

-- of a volume before and after the runs are written, or while they are
pub record LawPlans (old new : Disk) : Type 0 where
  pub runs : (b : Blocks) (es : List Effect) (made : Planned) → ArePlannedBy b es made → AreRuns b es made
  -- with a message more the runs end within their files, if its file reaches to the end of its spot
  pub within :
      (b : Blocks) (es : List Effect) (made : Planned) (m : Message) (spot : Spot) (p : Placing) → ArePlannedBy b es made
      → place b (length (spelled_message m)) made.placing ≡ Some (spot, p) → AreWithin old made.runs → end_of spot ≤ length (old.seen spot.file)
      → AreWithin old (with_message made.runs spot (spelled_message m))
  -- what was written of the blocks stands behind a batch too
  pub closed : (b : Blocks) → BlocksStand b old → BlocksStand (closed b) old
  pub kept :
      (b : Blocks) (es : List Effect) (made : Planned) → ArePlannedBy b es made → BlocksStand b old → ChangesRuns made.runs old new
      → LeavesOnly old new (KeepsBlocks b old)
  pub written :
      (b : Blocks) (es : List Effect) (made : Planned) → ArePlannedBy b es made → BlocksStand b old → ChangesRuns made.runs old new
      → All (λ run. AreBytes run.bytes) made.runs → All (IsWritten old new) made.runs → HasStored b es made.records old new
