-- What a commit needs, and what it leaves.
use Rattle.std.specs.Prelude.{◌≡◌, ◌⊎◌, ◌≤◌, ℕ, ◌||◌, Bool, true, false, length, List, Option, Some, None, map}
use Rattle.std.specs.List.{flat_map}
use Rattle.js_base.specs.declared.spot.Spot.{Spot}
use Rattle.vol_disk.specs.Disk.{Disk}
use Rattle.vol_disk.specs.Does.{Rests}
use Rattle.vol_disk.specs.Moments.{LeavesOnly}
use Rattle.effects.specs.declared.durable.Durable.{Durable}
use Rattle.effects.specs.declared.effect.Effect.{Effect}
use Rattle.effects.specs.declared.effect.Effect.TheVariants.{MakeStream, ChangeStream, DropStream, PutHere, Skip, Remove, MakeConsumer, DropConsumer, Deliver, Acked, Due, GivenUp, Now}
use Rattle.effects.specs.Folding.{fold_all}
use Rattle.op_records.specs.Spelling.{spelled_record}
use Rattle.op_records.specs.declared.record.Record.{Record}
use Rattle.op_records.specs.declared.record.Record.TheVariants.{Put, Change}
use Rattle.block_table.specs.Blocks.{Blocks, has_block, is_among}
use Rattle.block_writing.specs.Dropping.{IsEmptied}
use Rattle.block_writing.specs.Planning.{Planned}
use Rattle.stream_store.specs.Base.{IsBase}
use Rattle.stream_store.specs.Placing.{plan_of}
use Rattle.stream_store.specs.Staging.{is_written}
use Rattle.stream_store.specs.StoreState.{StoreState}
use Rattle.durable_checks.specs.Storable.{IsStorable, IsOpenable}
use Rattle.stream_store.specs.Holding.{Holds}

-- the records lead from the base to something that a volume may hold
pub record IsNextBatch (base : Durable) (effects : List Effect) (next : Durable) : Type 0 where
  pub folded : fold_all effects (Some base) ≡ Some next
  pub storable : IsStorable next
  pub openable : IsOpenable next

-- ---- how long the batch is

-- the record of a change; of a message that is stored, whatever its spot, which makes its record no longer
abbrev pub recorded_at : Spot → Effect → Record
recorded_at spot (MakeStream incarnation made config) = Change (MakeStream incarnation made config)
recorded_at spot (ChangeStream config) = Change (ChangeStream config)
recorded_at spot DropStream = Change DropStream
recorded_at spot (PutHere seq at id subject headers payload) = Put seq at id spot
recorded_at spot (Skip seq at id) = Change (Skip seq at id)
recorded_at spot (Remove low high) = Change (Remove low high)
recorded_at spot (MakeConsumer name made config cursor picks) = Change (MakeConsumer name made config cursor picks)
recorded_at spot (DropConsumer name) = Change (DropConsumer name)
recorded_at spot (Deliver name seq count due dseq) = Change (Deliver name seq count due dseq)
recorded_at spot (Acked name low high) = Change (Acked name low high)
recorded_at spot (Due name seq due) = Change (Due name seq due)
recorded_at spot (GivenUp name moment) = Change (GivenUp name moment)
recorded_at spot (Now moment) = Change (Now moment)

abbrev pub no_spot : Spot
no_spot = record { file = 0; at = 0; len = 0 }

-- how many bytes the records of these changes have
abbrev pub batch_length : List Effect → ℕ
batch_length effects = length (flat_map spelled_record (map (recorded_at no_spot) effects))

-- ---- what is left

-- the records are on the volume: whatever the base was, a crash now leaves what they made of it
abbrev pub IsCommitted : StoreState → StoreState → List Effect → Disk → Disk → Type 0
IsCommitted store after effects old new = (base next : Durable) → IsBase store base old → IsNextBatch base effects next → IsBase after next new

-- at any moment of the call a crash leaves the base, or what the records make of it
abbrev pub CommitsOrNot : StoreState → List Effect → Disk → Disk → Type 0
CommitsOrNot store effects old new =
    (base next : Durable) → IsBase store base old → IsNextBatch base effects next → LeavesOnly old new (λ image. Holds image base ⊎ Holds image next)

-- ---- what is given back

abbrev pub writes_in : Option Planned → ℕ → Bool
writes_in None file = false
writes_in (Some made) file = is_written made.runs file

-- the file is a block, or a message of these changes goes into it
abbrev pub touches : Blocks → List Effect → ℕ → Bool
touches b es file = has_block b file || writes_in (plan_of b es) file

-- The files of blocks that hold no message any more, and are not being written, are empty, and a crash leaves nothing of them.
pub record EmptiesUnused (store after : StoreState) (effects : List Effect) (old new : Disk) : Type 0 where
  -- of the files that were blocks, or were to be cut still, or in which the commit wrote, each that is no block now, and is not to be cut still
  pub emptied :
      (file : ℕ) → (touches store.blocks effects file || is_among store.unused file) ≡ true → has_block after.blocks file ≡ false → is_among after.unused file ≡ false
      → IsEmptied new file
  -- nothing else is to be cut still
  pub late : (file : ℕ) → is_among after.unused file ≡ true → (touches store.blocks effects file || is_among store.unused file) ≡ true
  -- no other file but those of the logs is touched
  pub elsewhere : (file : ℕ) → 2 ≤ file → touches store.blocks effects file ≡ false → is_among store.unused file ≡ false → Rests file old new
