-- What a new volume holds, that an image is read in one way, how changes that wait for a commit have their places, and how many blocks they leave.
use Rattle.std.specs.Prelude.{◌≡◌, ◌≤◌, ◌<◌, ℕ, ◌+◌, Bool, true, false, List, [], ◌∷◌, ◌++◌, length}
use Rattle.js_base.specs.Bytes.{Bytes}
use Rattle.vol_disk.specs.Disk.{Files}
use Rattle.effects.specs.declared.durable.Durable.{Durable}
use Rattle.effects.specs.declared.effect.Effect.{Effect}
use Rattle.effects.specs.declared.effect.Effect.TheVariants.{MakeStream, DropStream, PutHere}
use Rattle.effects.specs.Folding.{vacant}
use Rattle.op_records.specs.Allowed.{is_put}
use Rattle.op_records.specs.Blocks.{spelled_message}
use Rattle.block_table.specs.Blocks.{Blocks, blocks}
use Rattle.block_writing.specs.Planning.{message_by}
use Rattle.stream_store.specs.Placing.{blocks_then, can_place, has_room, spot_behind, used_behind}
use Rattle.stream_store.specs.Holding.{Holds}
use Rattle.stream_store.specs.Damage.{IsDamaged, IsOfAnotherVersion}
use Rattle.stream_store.specs.Untouched.{IsNoneOpen, IsUntouched}

pub record LawHolding : Type 0 where
  pub begins : (image : Files) → IsNoneOpen image → IsUntouched image → Holds image (vacant 0)
  pub one : (image : Files) (d e : Durable) → Holds image d → Holds image e → d ≡ e
  pub whole : (image : Files) (d : Durable) (file at : ℕ) → Holds image d → ¬ IsDamaged image file at
  pub known : (image : Files) (d : Durable) (n : ℕ) → Holds image d → ¬ IsOfAnotherVersion image n
  pub one_file : (image : Files) (file other at place : ℕ) → IsDamaged image file at → IsDamaged image other place → file ≡ other
  pub one_offset : (image : Files) (file other at place : ℕ) → IsDamaged image file at → IsDamaged image other place → at ≡ place
  pub one_fault : (image : Files) (file at n : ℕ) → IsDamaged image file at → ¬ IsOfAnotherVersion image n

-- the messages behind it go where they went
abbrev pub keeps_placing : Effect → Bool
keeps_placing (MakeStream _ _ _) = false
keeps_placing DropStream = false
keeps_placing (PutHere _ _ _ _ _ _) = false
keeps_placing _ = true

-- a change behind others has its place if it stores no message, or if there is room for its message; and one that stores none leaves the message behind it where it goes
pub record LawPlacing : Type 0 where
  pub none : (b : Blocks) → can_place b [] ≡ true
  pub change : (b : Blocks) (es : List Effect) (e : Effect) → is_put e ≡ false → can_place b es ≡ true → can_place b (es ++ e ∷ []) ≡ true
  pub message :
      (b : Blocks) (es : List Effect) (seq at : ℕ) (id subject headers payload : Bytes)
      → has_room b es (length (spelled_message (message_by seq at subject headers payload))) ≡ true
      → can_place b (es ++ PutHere seq at id subject headers payload ∷ []) ≡ true
  pub keeps : (b : Blocks) (es : List Effect) (e : Effect) (len : ℕ) → keeps_placing e ≡ true → spot_behind b (es ++ e ∷ []) len ≡ spot_behind b es len

-- each message of a batch begins one file at most; there is room as long as fewer files than the 65,534 from 2 to 65,535 are in use; and a commit leaves no more blocks
pub record LawCounting : Type 0 where
  pub none : (b : Blocks) → used_behind b [] ≡ length (blocks b)
  pub change : (b : Blocks) (es : List Effect) (e : Effect) → is_put e ≡ false → used_behind b (es ++ e ∷ []) ≡ used_behind b es
  pub message :
      (b : Blocks) (es : List Effect) (seq at : ℕ) (id subject headers payload : Bytes) → can_place b (es ++ PutHere seq at id subject headers payload ∷ []) ≡ true
      → used_behind b (es ++ PutHere seq at id subject headers payload ∷ []) ≤ used_behind b es + 1
  pub room : (b : Blocks) (es : List Effect) → can_place b es ≡ true → used_behind b es < 65534 → (len : ℕ) → has_room b es len ≡ true
  pub commit : (b : Blocks) (es : List Effect) → can_place b es ≡ true → length (blocks (blocks_then b es)) ≤ used_behind b es
