-- What the bytes of a log file are read as. Own.
use Rattle.std.specs.Prelude.{◌≡◌, ◌≢◌, ◌⊎◌, ℕ, ◌<◌, ◌≤◌, ◌^◌, List, [], ◌∷◌, ◌++◌, length, take, slice_index, Option, Some, None}
use Rattle.std.specs.Int.{w16, to_be_bytes}
use Rattle.js_base.specs.Bytes.{Bytes}
use Rattle.gate_log.specs.Head.{head, mark, version}
use Rattle.gate_log.specs.Batches.{open_batches, HaveLengths}

-- a head, open batches, a gate, and whatever stands behind it
pub record Spells (bytes : Bytes) (generation : ℕ) (batches : List Bytes) (gate : ℕ) (rest : Bytes) : Type 0 where
  pub bytes_are : bytes ≡ head generation ++ (open_batches batches ++ gate ∷ rest)
  pub below : generation < 2 ^ 62
  pub lengths : HaveLengths batches

-- A log of these open batches: the gate after them is closed, and what stands behind it does not count.
pub record IsLog (generation : ℕ) (batches : List Bytes) (bytes : Bytes) : Type 0 where
  pub gate : ℕ
  pub rest : Bytes
  pub spells : Spells bytes generation batches gate rest
  pub closed : gate ≢ 1

-- A file of this format whose first gate is closed. Its generation and its checksum do not count, since the start of a log writes them behind that gate; nor does
-- what stands after the gate, which may be room for batches, or the batches of a log that was left.
pub record IsShut (bytes : Bytes) : Type 0 where
  pub marked : take 8 bytes ≡ mark ++ to_be_bytes w16 version
  pub long : 20 < length bytes
  pub closed : slice_index bytes 20 ≢ 1

-- The open batches of a log file, with its generation if there is one. A file of 21 bytes or fewer holds nothing, whatever its bytes.
abbrev pub HasOpen : Bytes → Option ℕ → List Bytes → Type 0
HasOpen bytes None [] = (length bytes ≤ 21) ⊎ IsShut bytes
HasOpen bytes None (records ∷ batches) = ⊥
HasOpen bytes (Some generation) [] = ⊥
HasOpen bytes (Some generation) (records ∷ batches) = IsLog generation (records ∷ batches) bytes
