-- Batches of records in a log file. Before each stands its gate, a byte that is 1 if the batch is open. Own.
use Rattle.std.specs.Prelude.{ℕ, ◌+◌, ◌<◌, ◌^◌, List, [], ◌∷◌, ◌++◌, length}
use Rattle.js_base.specs.Bytes.{Bytes}
use Rattle.checksum.specs.Checked.{checked}

-- an open batch: its gate, and its records behind their length and their checksum
abbrev pub open_batch : Bytes → Bytes
open_batch records = 1 ∷ checked records

-- open batches, one after the other
abbrev pub open_batches : List Bytes → Bytes
open_batches [] = []
open_batches (records ∷ batches) = open_batch records ++ open_batches batches

-- The offset of the gate after these batches. The first gate stands behind the head.
abbrev pub end_of : List Bytes → ℕ
end_of batches = 20 + length (open_batches batches)

-- the length of each batch has its four bytes
abbrev pub HaveLengths : List Bytes → Type 0
HaveLengths [] = Unit {0}
HaveLengths (records ∷ batches) = (length records < 2 ^ 32) × HaveLengths batches
