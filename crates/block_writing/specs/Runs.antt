-- The runs of a commit: in each file that it writes, its messages stand one behind the other. This server's own.
use Rattle.std.specs.Prelude.{◌≡◌, ◌≢◌, ◌≤◌, ◌<◌, ◌⊎◌, ◌^◌, ℕ, ◌+◌, ◌-◌, ◌||◌, IsTrue, List, [], ◌∷◌, All, length, take, drop, ⊤}
use Rattle.std.specs.List.{AllZip}
use Rattle.js_base.specs.Bytes.{Bytes}
use Rattle.js_base.specs.declared.spot.Spot.{Spot}
use Rattle.js_model.specs.declared.stream.Message.{Message}
use Rattle.effects.specs.declared.effect.Effect.{Effect}
use Rattle.effects.specs.declared.effect.Effect.TheVariants.{PutHere}
use Rattle.op_records.specs.Blocks.{spelled_message}
use Rattle.op_records.specs.declared.record.Record.{Record}
use Rattle.op_records.specs.declared.record.Record.TheVariants.{Put}
use Rattle.block_table.specs.Blocks.{Blocks}
use Rattle.block_table.specs.Puts.{goes_on, begins}
use Rattle.block_writing.specs.declared.run.Run.{Run}
use Rattle.block_writing.specs.Planning.{message_by}

-- the spot of all of its bytes
abbrev pub spot_of : Run → Spot
spot_of run = record { file = run.file; at = run.at; len = length run.bytes }

-- it goes on where the block being written ends, or begins a file that is no block
abbrev pub IsPlaced : Blocks → Run → Type 0
IsPlaced b run = IsTrue (goes_on (spot_of run) b.writing || begins (spot_of run) b)

-- its bytes end below 2^32
abbrev pub IsShort : Run → Type 0
IsShort run = run.at + length run.bytes < 2 ^ 32

-- no two of them are in one file
abbrev pub AreApart : List Run → Type 0
AreApart [] = ⊤
AreApart (run ∷ runs) = All (λ other. other.file ≢ run.file) runs × AreApart runs

-- the run has the message where its spot says
pub record HasAt (spot : Spot) (m : Message) (run : Run) : Type 0 where
  pub file : spot.file ≡ run.file
  pub from : run.at ≤ spot.at
  pub len : spot.len ≡ length (spelled_message m)
  pub spelled : take spot.len (drop (spot.at - run.at) run.bytes) ≡ spelled_message m

-- one of the runs has this
abbrev pub SomeRun : (Run → Type 0) → List Run → Type 0
SomeRun P [] = ⊥
SomeRun P (run ∷ runs) = P run ⊎ SomeRun P runs

abbrev pub LiesIn : List Run → Spot → Message → Type 0
LiesIn runs spot m = SomeRun (HasAt spot m) runs

-- each message that is stored has this to do with the spot that its record tells
abbrev pub IsStoredBy : (Spot → Message → Type 0) → Effect → Record → Type 0
IsStoredBy P (PutHere seq at id subject headers payload) (Put number moment name spot) = P spot (message_by seq at subject headers payload)
IsStoredBy P e r = ⊤

abbrev pub AreStoredBy : (Spot → Message → Type 0) → List Effect → List Record → Type 0
AreStoredBy P es rs = AllZip (IsStoredBy P) es rs
