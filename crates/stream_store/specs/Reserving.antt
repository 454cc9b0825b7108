-- Room that is made ahead of what is written into it.
use Rattle.std.specs.Prelude.{◌≡◌, ◌⊎◌, ◌≤◌, ℕ, ◌+◌, true, false, IsTrue, List, [], ◌∷◌, ◌++◌, IfSome, Some, length}
use Rattle.std.specs.List.{list_all}
use Rattle.js_base.specs.Bytes.{Bytes}
use Rattle.js_base.specs.declared.spot.Spot.{Spot}
use Rattle.vol_disk.specs.Disk.{Disk}
use Rattle.effects.specs.declared.effect.Effect.{Effect}
use Rattle.effects.specs.declared.effect.Effect.TheVariants.{PutHere}
use Rattle.op_records.specs.Allowed.{is_put, is_record}
use Rattle.op_records.specs.Blocks.{spelled_message}
use Rattle.block_table.specs.Blocks.{Blocks, has_block, is_among}
use Rattle.block_table.specs.Tables.{IsTable}
use Rattle.block_writing.specs.Planning.{message_by}
use Rattle.block_writing.specs.Writing.{AreWithin}
use Rattle.stream_store.specs.Base.{MovesBase}
use Rattle.stream_store.specs.Placing.{plan_of, spot_behind}
use Rattle.stream_store.specs.Rooms.{AreLonger}
use Rattle.stream_store.specs.StoreState.{StoreState}

-- ---- while it is made

-- the base stays, and no file becomes shorter
pub record MakesRoom (store after : StoreState) (old new : Disk) : Type 0 where
  pub keeps : MovesBase store after old new
  pub longer : AreLonger old new

-- the file is a block, or is to be cut behind the next commit if it is none then
abbrev pub IsListed : StoreState → ℕ → Type 0
IsListed store file = (has_block store.blocks file ≡ true) ⊎ (is_among store.unused file ≡ true)

-- ---- room for messages

-- each message of these changes ends within the file where it goes
abbrev pub HasMessageRoom : Blocks → List Effect → Disk → Type 0
HasMessageRoom b es disk = IfSome (plan_of b es) (λ made. AreWithin disk made.runs)

-- A change behind others needs none if it stores no message, and the message of one that does needs it at its spot. It is said of a volume before and after it got
-- longer.
pub record LawReserving (old new : Disk) : Type 0 where
  pub none : (b : Blocks) → HasMessageRoom b [] old
  pub change : (b : Blocks) (es : List Effect) (e : Effect) → is_put e ≡ false → HasMessageRoom b es old → HasMessageRoom b (es ++ e ∷ []) old
  pub fewer : (b : Blocks) (es : List Effect) (e : Effect) → is_put e ≡ false → HasMessageRoom b (es ++ e ∷ []) old → HasMessageRoom b es old
  pub message :
      (b : Blocks) (es : List Effect) (seq at : ℕ) (id subject headers payload : Bytes) (spot : Spot) → IsTable b → IsTrue (list_all is_record es)
      → spot_behind b es (length (spelled_message (message_by seq at subject headers payload))) ≡ Some spot → spot.at + spot.len ≤ length (old.seen spot.file)
      → HasMessageRoom b es old → HasMessageRoom b (es ++ PutHere seq at id subject headers payload ∷ []) old
  pub longer : (b : Blocks) (es : List Effect) → AreLonger old new → HasMessageRoom b es old → HasMessageRoom b es new
